use Rattle.std.proofs.Common.{◌∙◌, ap}
use Rattle.aa_profile_data.specs.SeenRequests.{request_of}
use Rattle.aa_profile_data.specs.Picked.{picked}
use Rattle.aa_explain_rules.specs.Asked.{rules_of}
use Rattle.aa_explain_rules.specs.Missing.{lacked}
use Rattle.aa_explain_rules.proofs.AmongLemmas.{lacked-among}
use Rattle.aa_explain_rules.proofs.scripts.lacked_by.Goals as goal

pub returns : goal.returns
returns c =
    let request = request_of c.args.request.now in
    let rules = rules_of c.args.rules in
    c.lacked.ensures
    ∙ ap (λ rules. lacked request (picked rules c.deref.result.now)) c.as_slice.ensures
    ∙ ap (λ places. lacked request (picked rules places)) (c.deref.ensures.value ∙ c.in_ok-places.ensures)
    ∙ lacked-among request rules
