use Rattle.std.proofs.Common.{◌≡◌, length}
use Rattle.aatry_log_lines.specs.Lines.{is_learning}
use Rattle.aatry_log_lines.proofs.lines.is_learning.Given as goal

-- from here on it ends as from the beginning
abbrev pub invariant-loop-rest : goal.invariant-loop-rest
invariant-loop-rest l = is_learning l.rest ≡ is_learning l.name

abbrev pub decreases-loop-rest : goal.decreases-loop-rest
decreases-loop-rest l = length l.rest
