-- How answers change, letter by letter.
use Rattle.std.specs.Prelude.{ℕ, Bool, false, true, ◌&&◌, ◌||◌, ◌==◌, if◌then◌else◌, List, map, Option, None, Some}
use Rattle.aa_decide_rules.specs.declared.verdict.Answer.{Answer}
use Rattle.aa_decide_rules.specs.declared.verdict.Answer.TheVariants.{Allow, Complain, Deny, Refuse}
use Rattle.aa_decide_rules.specs.declared.verdict.Tag.{Tag}
use Rattle.aa_decide_rules.specs.declared.verdict.Tag.TheVariants.{Allowed, Audit, Denied}
use Rattle.aa_decide_rules.specs.declared.verdict.Verdict.{Verdict}
use Rattle.aa_explain_paths.specs.Claims.{single_letters}
use Rattle.aa_explain_changes.specs.Sides.{Sides, side_verdict}
use Rattle.aa_explain_changes.specs.declared.change.Answers.{Answers}
use Rattle.aa_explain_changes.specs.declared.change.Change.{Change}
use Rattle.aa_explain_changes.specs.declared.change.Change.TheVariants.{Gained, Lost, Otherwise, Same}

abbrev pub is_change : Change → Bool
is_change Same = false
is_change Gained = true
is_change Lost = true
is_change Otherwise = true

abbrev pub same_change : Change → Change → Bool
same_change Same Same = true
same_change Gained Gained = true
same_change Lost Lost = true
same_change Otherwise Otherwise = true
same_change _ _ = false

abbrev pub same_answer : Answer → Answer → Bool
same_answer Allow Allow = true
same_answer Deny Deny = true
same_answer Refuse Refuse = true
same_answer Complain Complain = true
same_answer _ _ = false

abbrev pub same_tag : Option Tag → Option Tag → Bool
same_tag None None = true
same_tag (Some Denied) (Some Denied) = true
same_tag (Some Allowed) (Some Allowed) = true
same_tag (Some Audit) (Some Audit) = true
same_tag _ _ = false

-- two answers are logged alike: by lines that begin alike, with the same letters
abbrev pub same_log : Verdict → Verdict → Bool
same_log one other = same_tag one.tag other.tag && (one.mask.0 == other.mask.0)

-- no change, where two answers that are equal are logged alike, or how they are logged doesn't matter
abbrev pub same_or : Bool → Verdict → Verdict → Change
same_or quiet one other = if quiet || same_log one other then Same else Otherwise

-- how one answer changes into another, by what each answers
abbrev pub change_by : Bool → Verdict → Verdict → Answer → Answer → Change
change_by quiet one other Allow Allow = same_or quiet one other
change_by quiet one other Allow _ = Lost
change_by quiet one other _ Allow = Gained
change_by quiet one other before now = if same_answer before now then same_or quiet one other else Otherwise

-- How one answer changes into another: a letter is allowed now, or isn't any more, or it is answered or logged otherwise.
abbrev pub change_between : Bool → Verdict → Verdict → Change
change_between quiet one other = change_by quiet one other one.answer other.answer

-- the answers of both sides to letters of a file, owned by the task's user or by another
abbrev pub answers_at : Sides → List ℕ → Bool → ℕ → Answers
answers_at sides path owned letters = record { old = side_verdict sides.old path owned letters; new = side_verdict sides.new path owned letters }

-- how the answer to letters of a file changes
abbrev pub change_of : Sides → List ℕ → Bool → ℕ → Change
change_of sides path owned letters = change_between sides.quiet (side_verdict sides.old path owned letters) (side_verdict sides.new path owned letters)

-- each letter by itself, with how the answer to it changes
abbrev pub changes_of : Sides → List ℕ → Bool → List (ℕ × Change)
changes_of sides path owned = map (λ letter. (letter, change_of sides path owned letter)) single_letters
