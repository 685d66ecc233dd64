-- Which profiles, children and hats would let a request through (docs/aatry.md).
use Rattle.std.specs.Prelude.{ℕ, Bool, true, false, if◌then◌else◌, List, [], ◌++◌, Option, None, Some, Result, Ok, Err, flat_map}
use Rattle.aa_decide_rules.specs.declared.verdict.Answer.{Answer}
use Rattle.aa_decide_rules.specs.declared.verdict.Answer.TheVariants.{Allow, Complain, Deny, Refuse}
use Rattle.aa_decide_ready.specs.Entries.{Loaded}
use Rattle.aa_profile_data.specs.Request.{Request}
use Rattle.aa_profile_data.specs.declared.profile.Child.{Child}
use Rattle.aa_profile_data.specs.declared.profile.Mode.{Mode}
use Rattle.aa_profile_data.specs.declared.profile.Mode.TheVariants as mode
use Rattle.aa_set_answers.specs.Children.{lines_of_children}
use Rattle.aa_set_answers.specs.ProfileNames.{full_name_at}
use Rattle.aa_set_answers.specs.declared.answers.Answered.{Answered}
use Rattle.aa_set_commands.specs.declared.refusal.Refusal.{Refusal}
use Rattle.aatry_policy.specs.FolderParts.{FolderParts}
use Rattle.aatry_policy.specs.Parts.{Part, part_of}
use Rattle.aatry_report.specs.declared.form.Form.{Form}
use Rattle.aatry_requests.specs.Questions.{rule_request}
use Rattle.aatry_why_lines.specs.Why.{allowing_lines}
use Rattle.aatry_why_lines.specs.Written.{Written}
use Rattle.aatry_who.specs.Sought.{Sought, answer_to, led}
use Rattle.aatry_who.specs.Telling.{let_line}

-- a request with this answer is let through; where there is no answer, no rule decides, and everything is
abbrev pub lets_through : Option Answer → Bool
lets_through None = true
lets_through (Some Allow) = true
lets_through (Some Complain) = true
lets_through (Some Deny) = false
lets_through (Some Refuse) = false

-- the rules of a part of a folder, with where they are written
abbrev pub written_of : FolderParts → Part → Written
written_of folder part = record {
  below = folder.below;
  name = part.file;
  audit = part.section.audit;
  rules = part.section.rules;
  places = part.places;
}

-- the rules of a profile, child or hat in a mode decide; they don't where it is disabled, which is no mode
abbrev pub asks_rules : Option Mode → Bool
asks_rules (Some mode.Enforce) = true
asks_rules (Some mode.Complain) = true
asks_rules (Some mode.Unconfined) = false
asks_rules None = false

-- the lines of the rules of a part that allow some of a request's needs, where they decide, if there is a part
abbrev pub rule_lines : Form → FolderParts → Option Part → Request → List ℕ
rule_lines form folder None request = []
rule_lines form folder (Some part) request = if asks_rules part.section.mode then allowing_lines form (written_of folder part) request else []

-- the rules by which a name lets the request through: none, where its mode does
abbrev pub by_rules : Form → Sought → List ℕ → Option Answer → List ℕ
by_rules form sought name (Some Allow) = rule_lines form sought.folder (part_of sought.folder.parts name) (rule_request sought.question)
by_rules form sought name _ = []

-- a name with its answer, and by which rules it lets the request through; nothing where it doesn't
abbrev pub told_lines : Form → Sought → List ℕ → Answered → List ℕ
told_lines form sought name told =
    if lets_through told.answer then let_line form name told.text (led sought name told.answer) ++ by_rules form sought name told.answer else []

-- the lines for any answer: a name that isn't loaded has none
abbrev pub answer_lines : Form → Sought → List ℕ → Result Answered Refusal → List ℕ
answer_lines form sought name (Ok told) = told_lines form sought name told
answer_lines form sought name (Err refusal) = []

-- the lines of a name, by its answer
abbrev pub named_lines : Form → Sought → List ℕ → List ℕ
named_lines form sought name = answer_lines form sought name (answer_to sought name)

-- the lines of a profile, or of its child or hat at an index
abbrev pub lines_of : Form → Sought → Loaded → Option ℕ → List ℕ
lines_of form sought entry child = named_lines form sought (full_name_at entry.profile child)

-- the lines of a child or a hat by its index
abbrev pub child_lines : Form → Sought → Loaded → ℕ → Child → List ℕ
child_lines form sought entry place child = lines_of form sought entry (Some place)

-- the lines of a profile, and those of its children and hats in the order of the file
abbrev pub entry_lines : Form → Sought → Loaded → List ℕ
entry_lines form sought entry = lines_of form sought entry None ++ lines_of_children (child_lines form sought entry) entry.profile.children

-- the lines of profiles, each with its children and hats
abbrev pub who_lines : Form → Sought → List Loaded → List ℕ
who_lines form sought entries = flat_map (entry_lines form sought) entries
