-- Profiles, children and hats by their names.
use Rattle.std.specs.Prelude.{ℕ, Bool, true, not, ◌&&◌, List, [], ◌∷◌, Option, position}
use Rattle.std.specs.List.{list_any}
use Rattle.std.specs.Str.{bytes_eq}
use Rattle.aa_profile_data.specs.declared.profile.Child.{Child}
use Rattle.aa_profile_data.specs.declared.profile.Profile.{Profile}

-- a profile has the name
abbrev pub is_named : List ℕ → Profile → Bool
is_named name profile = bytes_eq profile.name name

-- no two profiles have one name
abbrev pub are_distinct : List Profile → Bool
are_distinct [] = true
are_distinct (profile ∷ profiles) = not (list_any (is_named profile.name) profiles) && are_distinct profiles

-- a child or a hat has the name
abbrev pub is_child_named : List ℕ → Child → Bool
is_child_named name child = bytes_eq child.name name

-- the index of the child or hat of a name
abbrev pub child_place : List ℕ → List Child → Option ℕ
child_place name children = position (is_child_named name) children

-- no two children or hats have one name
abbrev pub are_distinct_children : List Child → Bool
are_distinct_children [] = true
are_distinct_children (child ∷ children) = not (list_any (is_child_named child.name) children) && are_distinct_children children
