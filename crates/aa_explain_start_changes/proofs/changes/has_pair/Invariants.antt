use Rattle.std.proofs.Common.{◌≡◌, length}
use Rattle.aa_explain_start_changes.specs.Starters.{seen_starters}
use Rattle.aa_explain_start_changes.specs.code.Telling.{has_pair}
use Rattle.aa_explain_start_changes.proofs.changes.has_pair.Given as goal

-- none of the starts so far is
abbrev pub invariant-loop-rest : goal.invariant-loop-rest
invariant-loop-rest l = has_pair (seen_starters l.starters) l.pair l.rest ≡ has_pair (seen_starters l.starters) l.pair l.changes

abbrev pub decreases-loop-rest : goal.decreases-loop-rest
decreases-loop-rest l = length l.rest
