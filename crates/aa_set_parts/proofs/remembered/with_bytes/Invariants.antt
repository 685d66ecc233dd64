use Rattle.std.proofs.Common.{length}
use Rattle.aa_set_parts.proofs.remembered.with_bytes.Given as goal

abbrev pub decreases-loop-rest : goal.decreases-loop-rest
decreases-loop-rest l = length l.rest
