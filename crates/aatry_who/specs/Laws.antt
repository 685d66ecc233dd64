-- Definitions for the law on the names that `who` prints.
use Rattle.std.specs.Prelude.{◌≡◌, Ok, not}
use Rattle.aa_bytes.specs.Texts.{is_empty}
use Rattle.aa_decide.specs.Exec.{Asker}
use Rattle.aa_set_answers.specs.Answers.{answered}
use Rattle.aa_set_answers.specs.ProfileNames.{full_name_at}
use Rattle.aa_set_answers.specs.declared.answers.Answered.{Answered}
use Rattle.aa_set_commands.specs.Question.{Question}
use Rattle.aatry_policy.specs.Folders.{Folder, policy_in}
use Rattle.aatry_report.specs.declared.form.Form.{Form}
use Rattle.aatry_requests.specs.Questions.{asked_as}
use Rattle.aatry_who.specs.Letting.{lets_through, lines_of, told_lines}
use Rattle.aatry_who.specs.Sought.{sought_in}

-- The question has an answer for the full name of a loaded profile, child or hat as its asker; that is printed exactly where the answer lets the
-- request through, and with that answer.
abbrev pub IsToldByAnswer : Form → Folder → Question → Asker → Type 0
IsToldByAnswer form folder question who =
    let name = full_name_at who.entry.profile who.child in
    let told_of = lines_of form (sought_in folder question) who.entry who.child in
    (told : Answered) × (answered (policy_in folder) (asked_as name question) ≡ Ok told)
    × (told_of ≡ told_lines form (sought_in folder question) name told)
    × (is_empty told_of ≡ not (lets_through told.answer))
