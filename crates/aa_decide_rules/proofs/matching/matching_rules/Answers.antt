use Rattle.std.proofs.lemmas.Result.{IfOk-weaker}
use Rattle.aa_decide_rules.proofs.MatchingPlaceLemmas.{all-found, places-rise}
use Rattle.aa_decide_rules.proofs.matching.matching_rules.Goals as goal

pub returns-clause-found : goal.returns-clause-found
returns-clause-found c = IfOk-weaker c.matching_places.result _ _ (λ places is. all-found c.args.rules.now c.args.path.now places.items is) c.matching_places.ensures

pub returns-clause-rise : goal.returns-clause-rise
returns-clause-rise c = IfOk-weaker c.matching_places.result _ _ (λ places is. places-rise c.args.rules.now c.args.path.now places.items is) c.matching_places.ensures
