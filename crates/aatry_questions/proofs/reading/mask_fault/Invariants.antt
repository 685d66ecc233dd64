use Rattle.std.proofs.Common.{◌≡◌, length}
use Rattle.aatry_questions.specs.Meant.{mask_fault}
use Rattle.aatry_questions.proofs.reading.mask_fault.Given as goal

-- from here on it ends as from the beginning
abbrev pub invariant-loop-rest : goal.invariant-loop-rest
invariant-loop-rest l = mask_fault l.rest ≡ mask_fault l.mask

abbrev pub decreases-loop-rest : goal.decreases-loop-rest
decreases-loop-rest l = length l.rest
