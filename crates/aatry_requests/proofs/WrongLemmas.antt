-- Words with which something is wrong ask no question.
use Rattle.std.proofs.Common.{◌≡◌, ◌≢◌, ℕ, List, [], ◌∷◌, length, map, refl}
use Rattle.std.specs.Prelude.{IsSome, None, Ok, Err, Option, Result, Some}
use Rattle.std.specs.Result.{result_ok}
use Rattle.aa_set_commands.specs.Question.{Question}
use Rattle.aa_set_commands.specs.declared.refusal.Refusal.{Refusal}
use Rattle.aatry_log_lines.specs.Lines.{Asks, Disconnected, Interpreted, Learning, NoRequest, OtherRequest, Told, Unreadable, told_by}
use Rattle.aatry_questions.specs.Faults.{Agree, Found}
use Rattle.aatry_questions.specs.Meant.{meant_fault, question_meant}
use Rattle.aatry_questions.specs.declared.misspelled.QuestionFault.{QuestionFault}
use Rattle.aatry_requests.specs.AskedWords.{AskNothing, asked_in}
use Rattle.aatry_requests.specs.WrongWords.{TellsAny, line_fault, words_fault}

-- what words mean
pub question_asks_nothing : (fault : Option Found) (read : Result Question Refusal) (told : Option QuestionFault)
    → Agree fault read → TellsAny fault told → IsSome told → result_ok read ≡ None
question_asks_nothing fault (Err refusal) told agree tells some = refl
question_asks_nothing (Some fault) (Ok question) told agree tells some = absurd agree
question_asks_nothing None (Ok question) (Some told) agree tells some = absurd tells
question_asks_nothing None (Ok question) None agree tells some = absurd (cc)

-- a line of a log
line_asks_nothing : (line : Told) (told : Option QuestionFault) → TellsAny (line_fault line) told → IsSome told → asked_in line ≡ None
line_asks_nothing (Asks question) (Some told) tells some = absurd tells
line_asks_nothing (Asks question) None tells some = absurd (cc)
line_asks_nothing OtherRequest told tells some = refl
line_asks_nothing Disconnected told tells some = refl
line_asks_nothing Learning told tells some = refl
line_asks_nothing NoRequest told tells some = refl
line_asks_nothing Unreadable told tells some = refl
line_asks_nothing Interpreted told tells some = refl

pub asks_nothing : ((words : List (List ℕ)) → Agree (meant_fault words) (question_meant words)) → (words : List (List ℕ)) (told : Option QuestionFault)
    → TellsAny (words_fault words) told → IsSome told → AskNothing words
asks_nothing agree [] told = question_asks_nothing (meant_fault []) (question_meant []) told (agree [])
asks_nothing agree (line ∷ []) told = line_asks_nothing (told_by line) told
asks_nothing agree (word ∷ next ∷ words) told =
    question_asks_nothing (meant_fault (word ∷ next ∷ words)) (question_meant (word ∷ next ∷ words)) told (agree (word ∷ next ∷ words))

-- with words of which there isn't one alone the same is wrong as with what they mean
pub fault-as_words : {A : Type 0} (text : A → List ℕ) (words : List A) → length words ≢ 1 → words_fault (map text words) ≡ meant_fault (map text words)
fault-as_words text [] other = refl
fault-as_words text (word ∷ []) other = absurd (other refl)
fault-as_words text (word ∷ next ∷ words) other = refl
