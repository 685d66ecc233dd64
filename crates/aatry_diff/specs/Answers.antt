-- The answer of a policy set to a question, as it is printed where two policy sets are compared: its text (docs/commands.md, "Questions"). The line
-- that logs it doesn't make it another one.
use Rattle.std.specs.Prelude.{ℕ, List, Result, Ok, Err, codes}
use Rattle.aa_decide_ready.specs.Entries.{Loaded}
use Rattle.aa_set_answers.specs.Answers.{answered}
use Rattle.aa_set_answers.specs.declared.answers.Answered.{Answered}
use Rattle.aa_set_commands.specs.Question.{Question}
use Rattle.aa_set_commands.specs.declared.refusal.Refusal.{Refusal}

-- the text in place of an answer where the asker doesn't exist: this is the only refusal of a question
abbrev pub absent : List ℕ
absent = codes "absent"

-- the text of an answer, if there is one
abbrev pub answer_of : Result Answered Refusal → List ℕ
answer_of (Ok told) = told.text
answer_of (Err refusal) = absent

abbrev pub answer : List Loaded → Question → List ℕ
answer entries question = answer_of (answered entries question)
