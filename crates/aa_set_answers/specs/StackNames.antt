-- The names of stacks: the full names in one, once each, in byte order, with `//&` between them (docs/policy.md, "Stacks").
use Rattle.std.specs.Prelude.{ℕ, List, [], ◌∷◌, ◌++◌, Option, None, Some, codes, flat_map}
use Rattle.std.specs.BTreeSet.{insert_key}
use Rattle.std.specs.Cmp.Lexicographic.{slice_cmp}
use Rattle.std.specs.List.{fold}
use Rattle.std.specs.Ordering.{nat_cmp}

-- names in byte order, with one more in its place, unless it is among them
abbrev pub put_name : List (List ℕ) → List ℕ → List (List ℕ)
put_name names name = insert_key (slice_cmp nat_cmp) names name

-- names once each, in byte order
abbrev pub in_order : List (List ℕ) → List (List ℕ)
in_order names = fold put_name [] names

-- a name after another
abbrev pub behind_another : List ℕ → List ℕ
behind_another name = codes "//&" ++ name

-- names with `//&` between them
abbrev pub joined : List (List ℕ) → List ℕ
joined [] = []
joined (name ∷ names) = name ++ flat_map behind_another names

-- the names of a stack of these members, on a base of this name, if it has one
abbrev pub names_of : Option (List ℕ) → List (List ℕ) → List (List ℕ)
names_of None members = members
names_of (Some base) members = base ∷ members

-- the name of a stack: one name alone is that name
abbrev pub stack_name : Option (List ℕ) → List (List ℕ) → List ℕ
stack_name base members = joined (in_order (names_of base members))
