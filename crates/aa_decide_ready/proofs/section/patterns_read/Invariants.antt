use Rattle.std.proofs.Common.{length}
use Rattle.std.specs.List.{All}
use Rattle.aa_profile_data.specs.ConflictLaws.{HasReadPattern}
use Rattle.aa_decide_ready.proofs.section.patterns_read.Given as goal

-- where the patterns of the others read, all do
abbrev pub invariant-loop-rest : goal.invariant-loop-rest
invariant-loop-rest l = All HasReadPattern l.rest → All HasReadPattern l.rules

abbrev pub decreases-loop-rest : goal.decreases-loop-rest
decreases-loop-rest l = length l.rest
