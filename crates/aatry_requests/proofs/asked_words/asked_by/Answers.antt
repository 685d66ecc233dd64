use Rattle.std.proofs.Common.{sym, string_bytes, ◌∙◌}
use Rattle.std.proofs.lemmas.Result.{IfOk-weaker}
use Rattle.aatry_requests.proofs.WordLemmas.{asked-as_words}
use Rattle.aatry_requests.proofs.asked_words.asked_by.Goals as goal

pub returns : goal.returns
returns c =
    IfOk-weaker c.asked_in_words.result _ _ (λ found h. h ∙ sym (asked-as_words string_bytes c.args.words.now c.if-words-eq1.false)) c.asked_in_words.ensures
