-- The changes that a rule takes part in: it covers a letter whose answer changes.
use Rattle.std.specs.Prelude.{◌≡◌, ℕ, ◌≤◌, Bool, false, true, not, ◌&&◌, ◌||◌, ◌==◌, if◌then◌else◌, List, fold, length, Option, None, Some}
use Rattle.std.specs.List.{list_any}
use Rattle.aa_decide_rules.specs.Verdict.{covered_by_file}
use Rattle.aa_explain_paths.specs.Meant.{may_be_asked}
use Rattle.aa_glob_nfa.specs.Graphs.{AreBytes}
use Rattle.aa_glob_syntax.specs.Matching.{matches}
use Rattle.aa_glob_syntax.specs.Reading.{items_of}
use Rattle.aa_profile_data.specs.Access.{common, union}
use Rattle.aa_profile_data.specs.declared.profile.FileRule.{FileRule}
use Rattle.aa_explain_changes.specs.Changes.{answers_at, changes_of, is_change, same_change}
use Rattle.aa_explain_changes.specs.Sides.{Sides}
use Rattle.aa_explain_changes.specs.declared.change.Answers.{Answers}
use Rattle.aa_explain_changes.specs.declared.change.Change.{Change}
use Rattle.aa_explain_changes.specs.declared.change.Change.TheVariants.{Gained, Lost, Otherwise}
use Rattle.aa_explain_changes.specs.declared.rules.FileChange.{FileChange as CodeFileChange}

-- a rule covers a letter of a file, where its pattern matches the file's path or not
abbrev pub covers_letter : FileRule → Bool → Bool → ℕ → Bool
covers_letter rule matched owned letter = matched && (not rule.owner || owned) && not (common letter (covered_by_file rule) == 0)

-- a rule covers a letter whose answer changes
abbrev pub takes_part : FileRule → Bool → Bool → ℕ × Change → Bool
takes_part rule matched owned letter = covers_letter rule matched owned letter.0 && is_change letter.1

-- a rule covers one of some letters whose answer changes
abbrev pub changes_by : FileRule → Bool → Bool → List (ℕ × Change) → Bool
changes_by rule matched owned letters = list_any (takes_part rule matched owned) letters

-- a rule covers a letter whose answer changes in this manner
abbrev pub takes_so : Change → FileRule → Bool → Bool → ℕ × Change → Bool
takes_so change rule matched owned letter = covers_letter rule matched owned letter.0 && same_change change letter.1

-- the change that is reported for the letters that a rule covers: one isn't allowed any more, or one is now, or neither
abbrev pub change_told : FileRule → Bool → Bool → List (ℕ × Change) → Change
change_told rule matched owned letters =
    if list_any (takes_so Lost rule matched owned) letters then Lost else if list_any (takes_so Gained rule matched owned) letters then Gained else Otherwise

-- those of some letters that a rule covers and whose answer changes in this manner
abbrev pub with_changed : Change → FileRule → Bool → Bool → ℕ → ℕ × Change → ℕ
with_changed change rule matched owned set letter = if takes_so change rule matched owned letter then union set letter.0 else set

abbrev pub changed_by : Change → FileRule → Bool → Bool → List (ℕ × Change) → ℕ
changed_by change rule matched owned letters = fold (with_changed change rule matched owned) 0 letters

abbrev pub is_matched_by : FileRule → List ℕ → Bool
is_matched_by rule path = matches (items_of rule.pattern) path

-- A rule takes part in a change of the answers on a path: of a file of the task's user, or of another's.
abbrev pub changes_for : Sides → FileRule → List ℕ → Bool → Bool
changes_for sides rule path owned = changes_by rule (is_matched_by rule path) owned (changes_of sides path owned)

abbrev pub changes_at : Sides → FileRule → List ℕ → Bool
changes_at sides rule path = changes_for sides rule path false || changes_for sides rule path true

-- a path that the kernel may ask about, on which answers change that a rule takes part in
pub record IsChange (sides : Sides) (rule : FileRule) (path : List ℕ) : Type 0 where
  pub bytes : AreBytes path
  pub asked : may_be_asked path ≡ true
  pub changes : changes_at sides rule path ≡ true

-- none of the paths with such a change is shorter
pub record IsShortestChange (sides : Sides) (rule : FileRule) (path : List ℕ) : Type 0 where
  pub change : IsChange sides rule path
  pub shortest : (other : List ℕ) → IsChange sides rule other → length path ≤ length other

-- The report on a path: whose file it is, another's where answers change of that; how they change; the letters that the rule covers and whose
-- answers change in this manner; and the answers of both sides to these.
pub record FileChange : Type 0 where
  pub path : List ℕ
  pub owned : Bool
  pub change : Change
  pub letters : ℕ
  pub answers : Answers

abbrev pub seen_change : CodeFileChange → FileChange
seen_change change =
    record { path = change.path.items; owned = change.owned; change = change.change; letters = change.letters.0; answers = change.answers }

abbrev pub told_for : Sides → FileRule → List ℕ → Bool → FileChange
told_for sides rule path owned =
    let matched = is_matched_by rule path in
    let letters = changes_of sides path owned in
    let change = change_told rule matched owned letters in
    let told = changed_by change rule matched owned letters in
    record { path = path; owned = owned; change = change; letters = told; answers = answers_at sides path owned told }

abbrev pub told_at : Sides → FileRule → List ℕ → FileChange
told_at sides rule path = told_for sides rule path (not (changes_for sides rule path false))

-- The report on a rule: a shortest path on which answers change that it takes part in; or none, where there is no such path.
abbrev pub IsToldOf : Sides → FileRule → Option FileChange → Type 0
IsToldOf sides rule None = (path : List ℕ) → IsChange sides rule path → ⊥
IsToldOf sides rule (Some told) = IsShortestChange sides rule told.path × (told ≡ told_at sides rule told.path)
