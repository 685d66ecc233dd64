use Rattle.std.proofs.Common.{◌≡◌, ◌++◌, ℕ, List, length}
use Rattle.aatry_hints.specs.Colors.{IsBegun}
use Rattle.aatry_hints.proofs.lines.push_colored.Given as goal

-- the whole lines so far stand in their colours behind what was before, and the rest is left
abbrev pub invariant-loop-line : goal.invariant-loop-line
invariant-loop-line l = (shown : List ℕ) × (l.out.items ≡ l.initial.out.items ++ shown) × IsBegun l.fn.text shown l.rest

abbrev pub decreases-loop-line : goal.decreases-loop-line
decreases-loop-line l = length l.rest
