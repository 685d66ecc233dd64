use Rattle.std.proofs.Common.{◌≡◌, ◌++◌, length}
use Rattle.aa_decide_ready.specs.Slots.{filled}
use Rattle.aa_explain.specs.Candidates.{profile_candidates, seen_candidates}
use Rattle.aa_explain.proofs.candidates.profile_candidates.Given as goal

-- those so far, and those of the rest, are all
abbrev pub invariant-loop-rest : goal.invariant-loop-rest
invariant-loop-rest l = seen_candidates l.found.items ++ profile_candidates (filled l.rest) ≡ profile_candidates (filled l.slots)

abbrev pub decreases-loop-rest : goal.decreases-loop-rest
decreases-loop-rest l = length l.rest
