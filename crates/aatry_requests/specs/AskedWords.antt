-- The questions of words.
use Rattle.std.specs.Prelude.{◌≡◌, ℕ, if◌then◌else◌, List, [], ◌∷◌, Option, None, Some, Result, codes, is_some}
use Rattle.std.specs.Result.{result_ok}
use Rattle.aa_set_commands.specs.Question.{Question}
use Rattle.aa_set_commands.specs.declared.refusal.Refusal.{Refusal}
use Rattle.aatry_log_lines.specs.Lines.{Asks, Disconnected, Interpreted, Learning, NoRequest, OtherRequest, Told, Unreadable, told_by}
use Rattle.aatry_questions.specs.Faults.{kind_of}
use Rattle.aatry_questions.specs.Meant.{question_meant}

-- the question of a line of a log, if it makes one
abbrev pub asked_in : Told → Option Question
asked_in (Asks question) = Some question
asked_in OtherRequest = None
asked_in Disconnected = None
asked_in Learning = None
asked_in NoRequest = None
asked_in Unreadable = None
asked_in Interpreted = None

-- The question of words, if they make one: a word alone as a line of a log, and several, which are at least three, as what they mean.
abbrev pub asked_by : List (List ℕ) → Option Question
asked_by (line ∷ []) = asked_in (told_by line)
asked_by words = result_ok (question_meant words)

-- the words make no question
abbrev pub AskNothing : List (List ℕ) → Type 0
AskNothing words = asked_by words ≡ None

-- The words of a question, by the asker and the words without it: after a kind of questions, if they begin with one, and else after `file`, so that
-- they are the access, the owner's word and the path of the question for a file. No word is both, since no letters of a kind make an access
-- (`what_words_ask_without_who_asks`).
abbrev pub asking_words : List ℕ → List (List ℕ) → List (List ℕ)
asking_words who [] = codes "file" ∷ who ∷ []
asking_words who (first ∷ words) = if is_some (kind_of first) then first ∷ who ∷ words else codes "file" ∷ who ∷ first ∷ words

-- the words of the same question of no one in particular
abbrev pub letting_words : List (List ℕ) → List (List ℕ)
letting_words words = asking_words (codes "unconfined") words

-- the question of no one in particular
abbrev pub letting_question : List (List ℕ) → Result Question Refusal
letting_question words = question_meant (letting_words words)
