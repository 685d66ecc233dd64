-- The items at some places of a list.
use Rattle.std.specs.Prelude.{ℕ, List, [], ◌∷◌, None, Some, slice_get}

-- the items at some places of a list, in the order of the places
abbrev pub picked : {X : Type 0} → List X → List ℕ → List X
picked xs [] = []
picked xs (place ∷ places) = elim (slice_get xs place) [ None ↦ picked xs places | Some x ↦ x ∷ picked xs places ]
