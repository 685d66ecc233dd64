use Rattle.std.proofs.Common.{◌≡◌, ◌∙◌, ap, false, sym, true}
use Rattle.std.specs.Prelude.{◌==◌}
use Rattle.std.proofs.lemmas.Result.{IfOk-weaker}
use Rattle.aa_profile_data.specs.SeenRequests.{request_of}
use Rattle.aa_profile_data.specs.Picked.{picked}
use Rattle.aa_explain_rules.specs.Asked.{concerned, rules_of}
use Rattle.aa_explain_rules.specs.Missing.{lacked}
use Rattle.aa_explain_rules.proofs.AmongLemmas.{nothing-missing, one-missing}
use Rattle.aa_explain_rules.proofs.missing.missing_rule.Goals as goal

pub returns-then-is_empty : goal.returns-then-is_empty
returns-then-is_empty c =
    let request = request_of c.args.request.now in
    let rules = rules_of c.args.rules in
    let is : c.lacked-needs.result.0 ≡ lacked request (picked rules (concerned request rules)) =
    c.lacked-needs.ensures
    ∙ ap (λ rules. lacked request (picked rules c.deref.result.now)) c.as_slice.ensures
    ∙ ap (λ places. lacked request (picked rules places)) (c.deref.ensures.value ∙ c.in_ok-places.ensures) in
    let none : (c.lacked-needs.result.0 == 0) ≡ true = sym (c.is_empty.ensures tt) ∙ c.if-is_empty.true in
    nothing-missing request rules c.lacked-needs.result.0 is none

pub returns : goal.returns
returns c =
    let request = request_of c.args.request.now in
    let rules = rules_of c.args.rules in
    let is : c.lacked-needs.result.0 ≡ lacked request (picked rules (concerned request rules)) =
    c.lacked-needs.ensures
    ∙ ap (λ rules. lacked request (picked rules c.deref.result.now)) c.as_slice.ensures
    ∙ ap (λ places. lacked request (picked rules places)) (c.deref.ensures.value ∙ c.in_ok-places.ensures) in
    let some : (c.lacked-needs.result.0 == 0) ≡ false = sym (c.is_empty.ensures tt) ∙ c.if-is_empty.false in
    IfOk-weaker c.rule_for.result _ _ (λ rule it. it ∙ one-missing request rules c.lacked-needs.result.0 is some) c.rule_for.ensures
