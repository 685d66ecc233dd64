use Rattle.std.proofs.lemmas.Result.{IfOk-weaker}
use Rattle.aa_decide_ready.specs.FileAutomata.{AreFileRulesOf}
use Rattle.aa_decide_ready.proofs.part.Part.matching_rules.Goals as goal

pub returns-in-Some-clause-found : goal.returns-in-Some-clause-found
returns-in-Some-clause-found c attachments is =
    let made : AreFileRulesOf c.in-Some.files c.args.rules.now = rw (c.in-Some.is) at is.files in
    IfOk-weaker c.matching.result _ _ (λ places found. found c.args.rules.now made) c.matching.ensures.found

pub returns-in_ok-build-in-None-clause-found : goal.returns-in_ok-build-in-None-clause-found
returns-in_ok-build-in-None-clause-found c attachments is =
    IfOk-weaker c.matching-in-None.result _ _ (λ places found. found c.args.rules.now c.in_ok-build-in-None.ensures) c.matching-in-None.ensures.found
