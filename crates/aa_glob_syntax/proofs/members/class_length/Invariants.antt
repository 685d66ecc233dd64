use Rattle.std.proofs.Common.{◌≡◌, ◌+◌, length}
use Rattle.aa_glob_syntax.specs.code.ClassText.{class_length}
use Rattle.aa_glob_syntax.proofs.members.class_length.Given as goal

-- the bytes so far, and those in what is left
abbrev pub invariant-loop-size : goal.invariant-loop-size
invariant-loop-size l = (class_length l.text ≡ l.length + class_length l.rest) × (length l.text ≡ l.length + length l.rest)

abbrev pub decreases-loop-size : goal.decreases-loop-size
decreases-loop-size l = length l.rest
