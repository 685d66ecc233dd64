use Rattle.std.proofs.Common.{◌≡◌, ◌+◌, ◌++◌, length}
use Rattle.aa_profile_data.specs.FileRules.{places_from}
use Rattle.aa_decide_ready.proofs.part.file_places.Given as goal

-- the places so far and those of the other rules are all
abbrev pub invariant-loop-rest : goal.invariant-loop-rest
invariant-loop-rest l = record {
  same : l.places.items ++ places_from l.place l.rest ≡ places_from 0 l.rules;
  count : l.place + length l.rest ≡ length l.rules;
}

abbrev pub decreases-loop-rest : goal.decreases-loop-rest
decreases-loop-rest l = length l.rest
