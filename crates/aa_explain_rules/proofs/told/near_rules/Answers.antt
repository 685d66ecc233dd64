use Rattle.std.proofs.Common.{◌∙◌, ap}
use Rattle.std.proofs.lemmas.Result.{IfOk-weaker}
use Rattle.aa_profile_data.specs.SeenRequests.{request_of}
use Rattle.aa_explain_rules.specs.Asked.{rules_of}
use Rattle.aa_explain_rules.specs.Told.{is_near}
use Rattle.aa_explain_rules.specs.code.Among.{among}
use Rattle.aa_explain_rules.proofs.AmongLemmas.{near-among}
use Rattle.aa_explain_rules.proofs.told.near_rules.Goals as goal

pub returns : goal.returns
returns c =
    let request = request_of c.args.request.now in
    let rules = rules_of c.args.rules in
    IfOk-weaker c.near_among.result _ _
    (λ found it. it
    ∙ ap (λ rules. among (is_near request) rules c.deref.result.now) c.as_slice.ensures
    ∙ ap (among (is_near request) rules) (c.deref.ensures.value ∙ c.in_ok-places.ensures)
    ∙ near-among request rules)
    c.near_among.ensures
