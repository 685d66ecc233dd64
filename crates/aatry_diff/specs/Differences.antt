-- The report on questions whose answers differ between two policy sets.
use Rattle.std.specs.Prelude.{ℕ, List, [], ◌∷◌, ◌++◌, codes, flat_map}
use Rattle.aa_decide_ready.specs.Entries.{Loaded}
use Rattle.aa_set_commands.specs.Question.{Question}
use Rattle.aa_set_answers.specs.Answers.{who_asks}
use Rattle.aatry_shared.specs.Causes.{cause_lines}
use Rattle.aatry_diff.specs.Differing.{Difference, differences}
use Rattle.aatry_diff.specs.Folders.{BothFolders}
use Rattle.aatry_requests.specs.Questions.{rule_request}
use Rattle.aatry_requests.specs.Tallies.{Tally}
use Rattle.aatry_requests.specs.Texts.{question_text}
use Rattle.aatry_report.specs.Fields.{Plain, Times, Words, told}
use Rattle.aatry_report.specs.declared.form.Form.{Form}

-- a question, the answer before and after, and how often it occurred
abbrev pub question_told : Form → (question before after : List ℕ) → (times : ℕ) → List ℕ
question_told form question before after times =
    told form (codes "question")
    (Plain (codes "question") question ∷ Words (codes ": ") ∷ Plain (codes "before") before ∷ Words (codes " -> ")
    ∷ Plain (codes "after") after ∷ Words (codes " (") ∷ Times (codes "times") times ∷ Words (codes ")") ∷ [])

abbrev pub told_question : Form → Difference → List ℕ
told_question form difference =
    question_told form (question_text difference.tally.question) difference.before difference.after difference.tally.times

-- the rules that lead to only one of the answers: those that apply to a question's request in one folder, and aren't written in the other
abbrev pub causes : Form → BothFolders → Question → List ℕ
causes form folders question = cause_lines form folders.old folders.new (who_asks question) (rule_request question)

-- the report on a question whose answers differ: itself, and below it the rules that lead to only one of the answers
abbrev pub difference_text : Form → BothFolders → Difference → List ℕ
difference_text form folders difference = told_question form difference ++ causes form folders difference.tally.question

-- the report on some of these questions
abbrev pub told_differences : Form → BothFolders → List Difference → List ℕ
told_differences form folders found = flat_map (difference_text form folders) found

-- the report on all questions whose answers differ between two policy sets
abbrev pub difference_lines : Form → BothFolders → List Loaded → List Loaded → List Tally → List ℕ
difference_lines form folders old new tallies = told_differences form folders (differences old new tallies)
