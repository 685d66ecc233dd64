use Rattle.std.proofs.Common.{◌≡◌, ◌∙◌, ap}
use Rattle.std.proofs.lemmas.Result.{IfOk-weaker}
use Rattle.aa_profile_data.specs.SeenRequests.{request_of}
use Rattle.aa_profile_data.specs.Picked.{picked}
use Rattle.aa_explain_rules.specs.Asked.{concerned, rules_of}
use Rattle.aa_explain_rules.specs.InTheWay.{is_in_the_way}
use Rattle.aa_explain_rules.specs.Missing.{lacked}
use Rattle.aa_explain_rules.specs.code.Among.{among}
use Rattle.aa_explain_rules.proofs.AmongLemmas.{lacked-among, way-among}
use Rattle.aa_explain_rules.proofs.in_the_way.rules_in_the_way.Goals as goal

pub returns : goal.returns
returns c =
    let request = request_of c.args.request.now in
    let rules = rules_of c.args.rules in
    let needs : c.lacked-needs.result.0 ≡ lacked request rules =
    c.lacked-needs.ensures
    ∙ ap (λ rules. lacked request (picked rules c.deref.result.now)) c.as_slice.ensures
    ∙ ap (λ places. lacked request (picked rules places)) (c.deref.ensures.value ∙ c.in_ok-places.ensures)
    ∙ lacked-among request rules in
    IfOk-weaker c.in_the_way_among.result _ _
    (λ found it. it
    ∙ ap (λ rules. among (is_in_the_way request c.lacked-needs.result.0) rules c.deref-2.result.now) c.as_slice-2.ensures
    ∙ ap (among (is_in_the_way request c.lacked-needs.result.0) rules) (c.deref-2.ensures.value ∙ c.in_ok-places.ensures)
    ∙ ap (λ needs. among (is_in_the_way request needs) rules (concerned request rules)) needs
    ∙ way-among request (lacked request rules) rules)
    c.in_the_way_among.ensures
