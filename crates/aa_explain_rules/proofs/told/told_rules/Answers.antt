use Rattle.std.proofs.Common.{◌∙◌, ap}
use Rattle.std.proofs.lemmas.Result.{IfOk-weaker}
use Rattle.aa_profile_data.specs.SeenRequests.{request_of}
use Rattle.aa_explain_rules.specs.Asked.{audits_of, rules_of}
use Rattle.aa_explain_rules.specs.code.Among.{told_among}
use Rattle.aa_explain_rules.proofs.AmongLemmas.{told-among}
use Rattle.aa_explain_rules.proofs.told.told_rules.Goals as goal

pub returns : goal.returns
returns c =
    let request = request_of c.args.request.now in
    let rules = rules_of c.args.rules in
    IfOk-weaker c.told_among.result _ _
    (λ found it. it
    ∙ ap (λ flag. told_among flag request c.as_slice.result.now c.deref.result.now) c.audits.ensures
    ∙ ap (λ rules. told_among (audits_of c.args.rules) request rules c.deref.result.now) c.as_slice.ensures
    ∙ ap (told_among (audits_of c.args.rules) request rules) (c.deref.ensures.value ∙ c.in_ok-places.ensures)
    ∙ told-among (audits_of c.args.rules) request rules)
    c.told_among.ensures
