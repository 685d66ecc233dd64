use Rattle.std.proofs.Common.{◌≡◌, ◌++◌, length}
use Rattle.aatry_log_globs.specs.Widening.{widened_behind}
use Rattle.aatry_log_globs.proofs.widening.push_widened.Given as goal

-- what is appended, with the rest behind the byte before it, is all
abbrev pub invariant-loop-rest : goal.invariant-loop-rest
invariant-loop-rest l =
    l.out.items ++ widened_behind l.covered l.before l.rest ≡ l.initial.out.items ++ widened_behind 0 0 l.bytes

abbrev pub decreases-loop-rest : goal.decreases-loop-rest
decreases-loop-rest l = length l.rest
