-- The lines of the children and hats of a profile, each by its index.
use Rattle.std.specs.Prelude.{ℕ, ◌+◌, List, [], ◌∷◌, ◌++◌}
use Rattle.aa_profile_data.specs.declared.profile.Child.{Child}

-- the line of each child and hat, where the first has this index
abbrev pub lines_from : (ℕ → Child → List ℕ) → ℕ → List Child → List ℕ
lines_from line place [] = []
lines_from line place (child ∷ children) = line place child ++ lines_from line (place + 1) children

-- the line of each child and hat of a profile
abbrev pub lines_of_children : (ℕ → Child → List ℕ) → List Child → List ℕ
lines_of_children line children = lines_from line 0 children
