-- The question as which the line of a log was read (docs/aatry.md, "`aatry why`").
use Rattle.std.specs.Prelude.{ℕ, List, [], ◌∷◌, codes}
use Rattle.aa_set_commands.specs.Question.{Question}
use Rattle.aatry_report.specs.Fields.{Plain, Words, told}
use Rattle.aatry_report.specs.declared.form.Form.{Form}
use Rattle.aatry_requests.specs.Texts.{question_text}

-- a question by its text, in a comment
unfoldable pub asked_text : Form → List ℕ → List ℕ
asked_text form text = told form (codes "request") (Words (codes "# asks: ") ∷ Plain (codes "question") text ∷ [])

abbrev pub asks_text : Form → Question → List ℕ
asks_text form question = asked_text form (question_text question)

-- the question of words: its line or record where the words are the line of a log, and nothing for other words, since they are the question
abbrev pub asks_of : Form → List (List ℕ) → Question → List ℕ
asks_of form (line ∷ []) question = asks_text form question
asks_of form words question = []
