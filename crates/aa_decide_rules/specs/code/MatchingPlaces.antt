-- The places of the rules on files whose pattern matches a path, in the rules' order.
use Rattle.std.specs.Prelude.{ℕ, ◌+◌, if◌then◌else◌, List, [], ◌∷◌}
use Rattle.aa_profile_data.specs.Matching.{is_matching}
use Rattle.aa_profile_data.specs.declared.profile.Rule.{Rule}

-- of some rules, of which the first has this place
abbrev pub matching_from : List ℕ → ℕ → List Rule → List ℕ
matching_from path first [] = []
matching_from path first (rule ∷ rules) = if is_matching path rule then first ∷ matching_from path (first + 1) rules else matching_from path (first + 1) rules
