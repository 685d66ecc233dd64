use Rattle.std.proofs.Common.{◌≡◌, ◌++◌, length}
use Rattle.aatry_log_globs.specs.Widening.{spelled, spelled_behind}
use Rattle.aatry_log_globs.proofs.widening.spelled.Given as goal

-- what is spelled, with the rest behind the byte before it, is all
abbrev pub invariant-loop-rest : goal.invariant-loop-rest
invariant-loop-rest l = l.text.items ++ spelled_behind l.before l.rest ≡ spelled l.path

abbrev pub decreases-loop-rest : goal.decreases-loop-rest
decreases-loop-rest l = length l.rest
