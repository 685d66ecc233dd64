use Rattle.std.proofs.Common.{ℕ, List, map, string_bytes}
use Rattle.std.specs.Prelude.{IsSome, Option}
use Rattle.std.proofs.lemmas.Result.{IfOk-weaker}
use Rattle.aatry_questions.specs.declared.misspelled.QuestionFault.{QuestionFault}
use Rattle.aatry_requests.specs.AskedWords.{AskNothing, letting_words}
use Rattle.aatry_requests.specs.WrongWords.{TellsAny, letting_fault}
use Rattle.aatry_requests.proofs.LettingLemmas.{letting-asks-nothing}
use Rattle.aatry_requests.proofs.wrong_words.letting_fault.Goals as goal

pub returns-clause-nothing : goal.returns-clause-nothing
returns-clause-nothing c =
    let words : List (List ℕ) = map string_bytes c.args.words.now in
    let Wrong : Option QuestionFault → Type 0 = λ found. TellsAny (letting_fault words) found in
    let Nothing : Option QuestionFault → Type 0 = λ found. IsSome found → AskNothing (letting_words words) in
    let nothing : (found : Option QuestionFault) → Wrong found → Nothing found =
    λ found h some. letting-asks-nothing c.how_wrong_words_are_refused.ensures.meant words found h some in
    IfOk-weaker c.spelling_or_asking_fault.result Wrong Nothing nothing c.spelling_or_asking_fault.ensures
