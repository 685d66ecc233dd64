use Rattle.aa_decide_ready.specs.Indexes.{ArePlaces}
use Rattle.aa_decide_ready.proofs.indexed.all_places.Given as goal

abbrev pub invariant-loop-place : goal.invariant-loop-place
invariant-loop-place l = ArePlaces l.place l.places.items
