use Rattle.std.proofs.Common.{◌≡◌, length}
use Rattle.aa_explain_reach.specs.code.Telling.{has_start}
use Rattle.aa_explain_reach.proofs.starts.has_start.Given as goal

-- none of the starts so far does
abbrev pub invariant-loop-rest : goal.invariant-loop-rest
invariant-loop-rest l = has_start l.to l.rest ≡ has_start l.to l.starts

abbrev pub decreases-loop-rest : goal.decreases-loop-rest
decreases-loop-rest l = length l.rest
