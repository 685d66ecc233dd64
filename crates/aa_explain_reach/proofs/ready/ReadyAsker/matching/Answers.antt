use Rattle.std.proofs.Common.{subst}
use Rattle.std.specs.List.Sorted.{IsStrictlyIncreasing}
use Rattle.std.specs.Option.{option_map}
use Rattle.std.proofs.lemmas.Result.{IfOk-weaker}
use Rattle.aa_decide.specs.SeenExec.{seen_asker}
use Rattle.aa_explain_reach.specs.Patterns.{asked_rules}
use Rattle.aa_profile_data.specs.Matching.{AreMatchingRules}
use Rattle.aa_explain_reach.proofs.ready.ReadyAsker.matching.Goals as goal

pub returns-clause-found : goal.returns-clause-found
returns-clause-found c =
    let rules = asked_rules (option_map seen_asker c.self.inside.asker) in
    IfOk-weaker c.matching.result _ _
    (λ places found. subst (λ asker. AreMatchingRules (asked_rules (option_map seen_asker asker)) c.args.path.now places.items) c.self.view_is (found rules c.self.invariant))
    c.matching.ensures.found

pub returns-clause-rise : goal.returns-clause-rise
returns-clause-rise c =
    let rules = asked_rules (option_map seen_asker c.self.inside.asker) in IfOk-weaker c.matching.result _ _ (λ places rise. rise rules c.self.invariant) c.matching.ensures.rise
