use Rattle.std.proofs.Common.{◌∙◌, ap, sym}
use Rattle.aa_profile_data.specs.SeenRequests.{request_of}
use Rattle.aa_explain_rules.specs.Asked.{concerned}
use Rattle.aa_explain_rules.proofs.AmongLemmas.{found-concerned, if-both}
use Rattle.aa_explain_rules.proofs.asked.concerned_loaded.Goals as goal

pub returns-in-File : goal.returns-in-File
returns-in-File c =
    let rules = c.args.section.rules.now in
    if-both c.matching_once.result c.matching_once.ensures.found c.matching_once.ensures.rise
    (λ places are up. found-concerned c.in-File.needs.0 c.in-File.owned c.in-File.path.now rules places.items are up
    ∙ ap (λ request. concerned (request_of request) rules) (sym c.in-File.is))
