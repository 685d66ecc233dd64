-- What is told of who is loaded goes by the answer that a question of its full name is given.
use Rattle.std.proofs.Common.{◌≡◌, ℕ, Bool, true, false, not, List, [], ◌∷◌, ◌++◌, Option, None, Some, Ok, Err, refl, ap, ◌∙◌}
use Rattle.std.specs.Prelude.{codes, flat_map, if◌then◌else◌}
use Rattle.serde_json.specs.Data.{object}
use Rattle.serde_json.specs.Written.{compact_text}
use Rattle.aa_bytes.specs.Bytes.{line_feed}
use Rattle.aa_bytes.specs.Texts.{is_empty}
use Rattle.aa_decide.specs.Exec.{Asker}
use Rattle.aa_decide_ready.specs.Entries.{Loaded}
use Rattle.aa_set_answers.specs.Answers.{answered, told_by}
use Rattle.aa_set_answers.specs.Askers.{asker}
use Rattle.aa_set_answers.specs.Laws.{IsListed}
use Rattle.aa_set_answers.specs.ProfileNames.{full_name_at}
use Rattle.aa_set_answers.specs.declared.answers.Answered.{Answered}
use Rattle.aa_set_commands.specs.Question.{OfAccess, OfExec, Question}
use Rattle.aa_set_commands.specs.Refusal.{plain}
use Rattle.aa_set_commands.specs.declared.refusal.RefusalKind.TheVariants.{Absent}
use Rattle.aatry_policy.specs.Folders.{Folder, policy_in}
use Rattle.aatry_report.specs.Fields.{Said, in_line, told, with_fields}
use Rattle.aatry_report.specs.Records.{record_of}
use Rattle.aatry_report.specs.declared.form.Form.{Form}
use Rattle.aatry_report.specs.declared.form.Form.TheVariants.{Lines, Records}
use Rattle.aatry_requests.specs.Questions.{asked_as}
use Rattle.aatry_who.specs.Laws.{IsToldByAnswer}
use Rattle.aatry_who.specs.Letting.{answer_lines, by_rules, lets_through, named_lines, told_lines}
use Rattle.aatry_who.specs.Sought.{Sought, led, sought_in}
use Rattle.aatry_who.specs.Telling.{let_line}

-- what is known of names
abbrev pub NamesLeadBack : Type 0
NamesLeadBack =
    (folder : Folder) (who : Asker) → IsListed (policy_in folder) who
    → asker (policy_in folder) (full_name_at who.entry.profile who.child) ≡ Some (Some who)

-- who is found by its name is answered
answered-by : (entries : List Loaded) (name : List ℕ) (who : Asker) (question : Question) → asker entries name ≡ Some (Some who)
    → answered entries (asked_as name question) ≡ Ok (told_by entries (asked_as name question) (Some who))
answered-by entries name who (OfAccess other request) is = ap (λ (o : Option (Option Asker)). elim o [
  | None ↦ Err (plain Absent)
  | Some asker ↦ Ok (told_by entries (OfAccess name request) asker)
]) is
answered-by entries name who (OfExec other owned path) is = ap (λ (o : Option (Option Asker)). elim o [
  | None ↦ Err (plain Absent)
  | Some asker ↦ Ok (told_by entries (OfExec name owned path) asker)
]) is

-- a line that ends is something
line-ended : (front behind : List ℕ) → is_empty ((front ++ line_feed ∷ []) ++ behind) ≡ false
line-ended [] behind = refl
line-ended (byte ∷ front) behind = refl

told-there : (form : Form) (kind : List ℕ) (fields : List Said) (behind : List ℕ) → is_empty (told form kind fields ++ behind) ≡ false
told-there Lines kind fields behind = line-ended (flat_map in_line fields) behind
told-there Records kind fields behind = line-ended (compact_text (object (with_fields fields (record_of kind)))) behind

-- something is told exactly where the answer lets it through
told-where-let : (form : Form) (sought : Sought) (name : List ℕ) (told : Answered) → is_empty (told_lines form sought name told) ≡ not (lets_through told.answer)
told-where-let form sought name told = by (lets_through told.answer)
  where
    by : (lets : Bool) → is_empty (if lets then let_line form name told.text (led sought name told.answer) ++ by_rules form sought name told.answer else []) ≡ not lets
    by true = told-there form (codes "let") _ (by_rules form sought name told.answer)
    by false = refl

-- what is told of who is loaded
pub told-by-answer : NamesLeadBack → (form : Form) (folder : Folder) (question : Question) (who : Asker) → IsListed (policy_in folder) who
    → IsToldByAnswer form folder question who
told-by-answer names form folder question who listed =
    let name = full_name_at who.entry.profile who.child in
    let sought = sought_in folder question in
    let told = told_by (policy_in folder) (asked_as name question) (Some who) in
    let is : answered (policy_in folder) (asked_as name question) ≡ Ok told = answered-by (policy_in folder) name who question (names folder who listed) in
    let lines : named_lines form sought name ≡ told_lines form sought name told = ap (answer_lines form sought name) is in
    (told, is, lines, ap is_empty lines ∙ told-where-let form sought name told)
