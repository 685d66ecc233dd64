use Rattle.std.proofs.Common.{◌≡◌, ◌++◌, length}
use Rattle.aatry_uncertain.specs.SeenHeads.{all_left_out}
use Rattle.aatry_uncertain.specs.Told.{start_lines}
use Rattle.aatry_uncertain.proofs.telling.push_starts.Given as goal

-- the text so far, with what is told of the heads that are left, is all
abbrev pub invariant-loop-rest : goal.invariant-loop-rest
invariant-loop-rest l =
    let text = start_lines l.teller.form l.base l.path in
    l.out.items ++ text (all_left_out l.rest) ≡ l.initial.out.items ++ text (all_left_out l.heads)

abbrev pub decreases-loop-rest : goal.decreases-loop-rest
decreases-loop-rest l = length l.rest
