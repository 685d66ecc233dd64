use Rattle.std.proofs.Common.{◌≡◌, ◌++◌, length}
use Rattle.aa_bytes.specs.Quoting.{hexadecimal}
use Rattle.aa_bytes.proofs.quoting.push_hexadecimal.Given as goal

-- the line so far, with what is left, is all
abbrev pub invariant-loop-rest : goal.invariant-loop-rest
invariant-loop-rest l = l.line.items ++ hexadecimal l.rest ≡ l.initial.line.items ++ hexadecimal l.bytes

abbrev pub decreases-loop-rest : goal.decreases-loop-rest
decreases-loop-rest l = length l.rest
