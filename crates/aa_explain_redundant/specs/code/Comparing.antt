-- Whether two sides give the same verdict on a path, as a test.
use Rattle.std.specs.Prelude.{ℕ, Bool, false, true, not, ◌&&◌, ◌||◌, List}
use Rattle.std.specs.List.{list_any}
use Rattle.aa_decide_rules.specs.Choices.{Choice, Denied, Leads, Missing, choice}
use Rattle.aa_explain_changes.specs.Changes.{change_between, is_change}
use Rattle.aa_explain_changes.specs.Sides.{Side, side_verdict}
use Rattle.aa_explain_paths.specs.Claims.{single_letters}
use Rattle.aa_profile_data.specs.Conflicts.{same_transition}
use Rattle.aa_profile_data.specs.SameRules.{same_flag}
use Rattle.aa_explain_redundant.specs.code.Copies.{ArePathCopies}
use Rattle.aa_explain_redundant.specs.declared.comparing.Compared.{Compared}

-- a letter of a file is answered or logged otherwise
abbrev pub letter_changes : Side → Side → List ℕ → Bool → ℕ → Bool
letter_changes one other path owned letter = is_change (change_between false (side_verdict one path owned letter) (side_verdict other path owned letter))

abbrev pub same_choice : Choice → Choice → Bool
same_choice (Denied one) (Denied other) = same_flag one other
same_choice Missing Missing = true
same_choice (Leads one loud) (Leads other other_loud) = same_transition one other && same_flag loud other_loud
same_choice _ _ = false

-- the start of the program of a path is answered otherwise
abbrev pub start_changes : Side → Side → List ℕ → Bool → Bool
start_changes one other path owned = not (same_choice (choice one.audit owned path one.rules) (choice other.audit owned path other.rules))

abbrev pub answers_change_for : Side → Side → List ℕ → Bool → Bool
answers_change_for one other path owned = list_any (letter_changes one other path owned) single_letters || start_changes one other path owned

abbrev pub answers_change : Side → Side → List ℕ → Bool
answers_change one other path = answers_change_for one other path false || answers_change_for one other path true

abbrev pub all_side : Compared → Side
all_side compared = record { audit = compared.audit; rules = compared.all.now.rules.items }

abbrev pub left_side : Compared → Side
left_side compared = record { audit = compared.audit; rules = compared.left.now.rules.items }

-- all the copies of both are of rules that match the path
pub record AreCompared (compared : Compared) : Type 0 where
  pub all : ArePathCopies compared.path.now compared.all.now
  pub left : ArePathCopies compared.path.now compared.left.now
