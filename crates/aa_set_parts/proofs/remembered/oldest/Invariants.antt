use Rattle.std.proofs.Common.{◌<◌, length}
use Rattle.aa_set_parts.proofs.remembered.oldest.Given as goal

abbrev pub invariant-loop-at : goal.invariant-loop-at
invariant-loop-at l = 0 < length l.askers → l.oldest < length l.askers
