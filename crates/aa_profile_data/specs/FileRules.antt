-- The rules on files among the rules of a profile: their patterns and their places.
use Rattle.std.specs.Prelude.{List, [], ℕ, ◌+◌, ◌∷◌}
use Rattle.aa_profile_data.specs.declared.profile.Rule.{Rule}
use Rattle.aa_profile_data.specs.declared.profile.Rule.TheVariants.{Cap, File, Net, Other}

-- the places of the file rules among some, of which the first has this place
abbrev pub places_from : ℕ → List Rule → List ℕ
places_from first [] = []
places_from first (File rule ∷ rules) = first ∷ places_from (first + 1) rules
places_from first (Cap rule ∷ rules) = places_from (first + 1) rules
places_from first (Net rule ∷ rules) = places_from (first + 1) rules
places_from first (Other rule ∷ rules) = places_from (first + 1) rules

-- the patterns of the file rules among some, in their order
abbrev pub file_patterns : List Rule → List (List ℕ)
file_patterns [] = []
file_patterns (File rule ∷ rules) = rule.pattern ∷ file_patterns rules
file_patterns (Cap rule ∷ rules) = file_patterns rules
file_patterns (Net rule ∷ rules) = file_patterns rules
file_patterns (Other rule ∷ rules) = file_patterns rules
