use Rattle.std.proofs.Common.{subst, sym}
use Rattle.std.specs.List.Sorted.{IsStrictlyIncreasing}
use Rattle.std.specs.Option.{option_map}
use Rattle.std.proofs.lemmas.Result.{IfOk-weaker}
use Rattle.aa_decide.specs.SeenExec.{seen_asker}
use Rattle.aa_explain_reach.specs.Patterns.{asked_rules}
use Rattle.aa_profile_data.specs.Matching.{AreMatchingRules}
use Rattle.aa_explain_reach.proofs.ready.choice_by.Goals as goal

pub returns : goal.returns
returns c =
    let path = c.args.path.now in
    let found : AreMatchingRules (asked_rules (option_map seen_asker c.args.ready.now)) path c.deref.result.now = rw c.deref.ensures.value c.in_ok-places.ensures.found in
    let are : AreMatchingRules c.args.section.rules.now path c.deref.result.now =
    subst (λ rules. AreMatchingRules rules path c.deref.result.now) (sym c.requires) found in
    let rise : IsStrictlyIncreasing c.deref.result.now = rw c.deref.ensures.value c.in_ok-places.ensures.rise in
    IfOk-weaker c.exec_choice.result _ _ (λ found is. is path are rise) c.exec_choice.ensures
