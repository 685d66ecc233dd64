-- The patterns that tell paths apart, and their classes.
use Rattle.std.specs.Prelude.{ℕ, List, ◌++◌, length, replicate}
use Rattle.aa_glob_paths.specs.Settled.{passed_over_class}
use Rattle.aa_glob_paths.specs.Wanted.{wanted_class}
use Rattle.aa_profile_data.specs.FileRules.{file_patterns}
use Rattle.aa_profile_data.specs.declared.profile.Rule.{Rule}

-- some patterns, followed by those that are wanted, and those that are passed over
abbrev pub telling_among : List (List ℕ) → List (List ℕ) → List (List ℕ) → List (List ℕ)
telling_among others wanted unasked = (others ++ wanted) ++ unasked

-- the patterns that tell paths apart, where the first are those of the rules on files
abbrev pub telling_patterns : List Rule → List (List ℕ) → List (List ℕ) → List (List ℕ)
telling_patterns rules patterns unasked = telling_among (file_patterns rules) patterns unasked

-- the class of patterns that are neither wanted nor passed over
abbrev pub other_class : ℕ
other_class = 0

-- the classes of patterns, by how many there are of each
abbrev pub classes_of : ℕ → ℕ → ℕ → List ℕ
classes_of rules wanted unasked = (replicate rules other_class ++ replicate wanted wanted_class) ++ replicate unasked passed_over_class

-- the classes of all patterns that tell paths apart
abbrev pub classes_among : List (List ℕ) → List (List ℕ) → List (List ℕ) → List ℕ
classes_among others wanted unasked = classes_of (length others) (length wanted) (length unasked)

-- the classes of all patterns that tell paths apart, where the first are those of the rules on files
abbrev pub all_classes : List Rule → List (List ℕ) → List (List ℕ) → List ℕ
all_classes rules patterns unasked = classes_among (file_patterns rules) patterns unasked
