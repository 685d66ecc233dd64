use Rattle.aa_decide_ready.proofs.PickLemmas.{IsPicked}
use Rattle.aa_decide_ready.proofs.part.pick.Given as goal

abbrev pub invariant-loop-at : goal.invariant-loop-at
invariant-loop-at l = IsPicked l.numbers l.fn.places.items l.places.items l.at l.kept
