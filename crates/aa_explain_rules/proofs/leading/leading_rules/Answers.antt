use Rattle.std.proofs.Common.{◌≡◌, ◌∙◌, ap, false, sym, true}
use Rattle.std.proofs.lemmas.Result.{IfOk-weaker}
use Rattle.aa_decide_rules.specs.Choices.{denies, dominates}
use Rattle.aa_profile_data.specs.Access.{EXEC}
use Rattle.aa_profile_data.specs.Request.{ForFile}
use Rattle.aa_explain_rules.specs.Asked.{concerned, rules_of}
use Rattle.aa_explain_rules.specs.Leading.{highest_that, says}
use Rattle.aa_explain_rules.specs.code.Among.{among, some_among}
use Rattle.aa_explain_rules.proofs.AmongLemmas.{none-leads, some-lead}
use Rattle.aa_explain_rules.proofs.leading.leading_rules.Goals as goal

pub returns-then-some_denies : goal.returns-then-some_denies
returns-then-some_denies c =
    let rules = rules_of c.args.rules in
    let places : c.deref.result.now ≡ concerned (ForFile EXEC c.args.owned c.args.path.now) rules = c.deref.ensures.value ∙ c.in_ok-places.ensures in
    let test = says denies false c.args.owned c.args.path.now in
    let denied : some_among test rules (concerned (ForFile EXEC c.args.owned c.args.path.now) rules) ≡ true =
    ap (some_among test rules) (sym places)
    ∙ ap (λ rules. some_among test rules c.deref.result.now) (sym c.as_slice-rules.ensures)
    ∙ sym c.some_denies.ensures
    ∙ c.if-some_denies.true in
    c.new.ensures.items ∙ none-leads EXEC c.args.owned c.args.path.now rules denied

pub returns : goal.returns
returns c =
    let owned = c.args.owned in
    let path = c.args.path.now in
    let rules = rules_of c.args.rules in
    let all = concerned (ForFile EXEC owned path) rules in
    let is : c.as_slice-rules.result.now ≡ rules = c.as_slice-rules.ensures in
    let denied : some_among (says denies false owned path) rules all ≡ false =
    ap (some_among (says denies false owned path) rules) (sym (c.deref.ensures.value ∙ c.in_ok-places.ensures))
    ∙ ap (λ rules. some_among (says denies false owned path) rules c.deref.result.now) (sym is)
    ∙ sym c.some_denies.ensures
    ∙ c.if-some_denies.false in
    let top : c.highest-rank.result ≡ highest_that (λ rank. some_among (says (dominates rank) false owned path) rules all) =
    c.highest-rank.ensures
    ∙ ap (λ rules. highest_that (λ rank. some_among (says (dominates rank) false owned path) rules c.deref-2.result.now)) is
    ∙ ap (λ places. highest_that (λ rank. some_among (says (dominates rank) false owned path) rules places)) (c.deref-2.ensures.value ∙ c.in_ok-places.ensures) in
    IfOk-weaker c.dominating.result _ _
    (λ found it. it
    ∙ ap (λ rules. among (says (dominates c.highest-rank.result) false owned path) rules c.deref-3.result.now) is
    ∙ ap (among (says (dominates c.highest-rank.result) false owned path) rules) (c.deref-3.ensures.value ∙ c.in_ok-places.ensures)
    ∙ ap (λ rank. among (says (dominates rank) false owned path) rules all) top
    ∙ some-lead EXEC owned path rules denied)
    c.dominating.ensures
