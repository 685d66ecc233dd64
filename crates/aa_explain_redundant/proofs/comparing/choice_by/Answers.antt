use Rattle.std.proofs.Common.{◌≡◌, ◌∙◌, ap, length, subst, sym}
use Rattle.std.specs.List.Sorted.{IsStrictlyIncreasing}
use Rattle.std.proofs.lemmas.Result.{IfOk-weaker}
use Rattle.aa_decide_rules.specs.Choices.{choice}
use Rattle.aa_profile_data.specs.Matching.{AreMatchingRules}
use Rattle.aa_explain_redundant.proofs.CopyLemmas.{copies-match, places-rise}
use Rattle.aa_explain_redundant.specs.code.Copies.{places_to}
use Rattle.aa_explain_redundant.proofs.comparing.choice_by.Goals as goal

pub returns : goal.returns
returns c =
    let copies = c.args.copies.now in
    let path = c.args.path.now in
    let places : c.deref-2.result.now ≡ places_to (length copies.rules.items) = c.deref-2.ensures.value ∙ c.requires.counted in
    let rules = c.deref.ensures.value in
    IfOk-weaker c.exec_choice.result _ _
    (λ found is.
    is path
    (subst (λ r. AreMatchingRules r path c.deref-2.result.now) (sym rules)
    (subst (AreMatchingRules copies.rules.items path) (sym places) (copies-match path copies.rules.items c.requires.matching)))
    (subst IsStrictlyIncreasing (sym places) (places-rise (length copies.rules.items)))
    ∙ ap (choice c.args.audit c.args.owned path) rules)
    c.exec_choice.ensures
