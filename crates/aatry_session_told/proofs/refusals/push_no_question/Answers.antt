use Rattle.std.proofs.lemmas.Result.{on_ok_weaker}
use Rattle.aatry_session_told.proofs.refusals.push_no_question.Goals as goal

pub returns : goal.returns
returns c =
    let told = rw (c.number.ensures, c.refusal_of-refusal.ensures) at c.push_fault.ensures in
    on_ok_weaker c.push_fault.result (λ h. (c.match-from_utf8.text.now, h)) told
