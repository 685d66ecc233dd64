use Rattle.std.proofs.Common.{◌≡◌, length}
use Rattle.std.specs.Map.{lookup}
use Rattle.std.specs.Str.{bytes_eq}
use Rattle.aa_history.specs.SeenMarks.{seen_marks}
use Rattle.aa_history.proofs.marks.number_among.Given as goal

-- what is left has the name's number, or none has
abbrev pub invariant-loop-rest : goal.invariant-loop-rest
invariant-loop-rest l = lookup (λ other. bytes_eq other l.name) (seen_marks l.rest) ≡ lookup (λ other. bytes_eq other l.name) (seen_marks l.marks)

abbrev pub decreases-loop-rest : goal.decreases-loop-rest
decreases-loop-rest l = length l.rest
