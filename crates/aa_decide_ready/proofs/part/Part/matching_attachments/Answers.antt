use Rattle.std.proofs.lemmas.Result.{IfOk-weaker}
use Rattle.aa_decide_ready.proofs.part.Part.matching_attachments.Goals as goal

pub returns-clause-found : goal.returns-clause-found
returns-clause-found c = IfOk-weaker c.matching.result _ _ (λ places found rules attachments is. found attachments is.attached) c.matching.ensures.found

pub returns-clause-steps : goal.returns-clause-steps
returns-clause-steps c rules attachments is = record { within = λ states. c.matching.ensures.steps attachments states is.attached; first = c.matching.ensures.first attachments is.attached }

pub returns-clause-all : goal.returns-clause-all
returns-clause-all c rules attachments is = c.matching.ensures.all attachments is.attached
