use Rattle.std.proofs.Common.{◌≡◌, length}
use Rattle.aatry_questions.specs.Faults.{letters_fault}
use Rattle.aatry_questions.proofs.faults.letters_fault.Given as goal

-- from here on it ends as from the beginning
abbrev pub invariant-loop-rest : goal.invariant-loop-rest
invariant-loop-rest l = letters_fault l.set.0 l.rest ≡ letters_fault 0 l.letters

abbrev pub decreases-loop-rest : goal.decreases-loop-rest
decreases-loop-rest l = length l.rest
