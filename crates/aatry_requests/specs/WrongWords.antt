-- What is wrong with words that make no question.
use Rattle.std.specs.Prelude.{ℕ, ⊤, if◌then◌else◌, List, [], ◌∷◌, Option, None, Some}
use Rattle.aatry_log_lines.specs.Lines.{Asks, Disconnected, Interpreted, Learning, NoRequest, OtherRequest, Told, Unreadable, told_by}
use Rattle.aatry_questions.specs.Faults.{Found, first_fault, found}
use Rattle.aatry_questions.specs.Meant.{meant_fault}
use Rattle.aatry_questions.specs.Misspelled.{Tells, misspells_kind}
use Rattle.aatry_questions.specs.declared.faults.Wrong.TheVariants.{Kind, LineWithoutRequest, OtherLine, UnreadableLine}
use Rattle.aatry_questions.specs.declared.misspelled.QuestionFault.{QuestionFault}
use Rattle.aatry_requests.specs.AskedWords.{letting_words}

-- what is wrong with a line of a log, if it makes no question: the fault is in no single word of it
abbrev pub line_fault : Told → Option Found
line_fault (Asks question) = None
line_fault OtherRequest = Some (found OtherLine [])
line_fault Disconnected = Some (found OtherLine [])
line_fault Learning = Some (found OtherLine [])
line_fault NoRequest = Some (found LineWithoutRequest [])
line_fault Unreadable = Some (found UnreadableLine [])
line_fault Interpreted = Some (found UnreadableLine [])

-- What is wrong with words, if they make no question: with a word alone as a line of a log, and with several by what they mean.
abbrev pub words_fault : List (List ℕ) → Option Found
words_fault (line ∷ []) = line_fault (told_by line)
words_fault words = meant_fault words

-- what is wrong with a word that is no kind of questions, where it may stand for one
abbrev pub spelling_fault : List ℕ → Option Found
spelling_fault word = if misspells_kind word then Some (found Kind word) else None

-- what is wrong with the first of some words, where it is no kind of questions and may stand for one
abbrev pub first_word_fault : List (List ℕ) → Option Found
first_word_fault [] = None
first_word_fault (first ∷ words) = spelling_fault first

-- What is wrong with words without the asker, if they make no question: that the first is no kind of questions, where it may stand for one; and else
-- what is wrong with the question's own words.
abbrev pub letting_fault : List (List ℕ) → Option Found
letting_fault words = first_fault (first_word_fault words) (meant_fault (letting_words words))

-- what is found to be wrong is reported, and nothing where nothing is found
abbrev pub TellsAny : Option Found → Option QuestionFault → Type 0
TellsAny None None = ⊤
TellsAny None (Some fault) = ⊥
TellsAny (Some wrong) None = ⊥
TellsAny (Some wrong) (Some fault) = Tells fault wrong
