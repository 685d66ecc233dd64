-- How the numbers of patterns are collected.
use Rattle.std.specs.Prelude.{◌↔◌, ◌⊎◌, ℕ, List, Contains}

-- all numbers of a kind, and no others, were added to a list
abbrev pub Gets : List ℕ → List ℕ → (ℕ → Type 0) → Type 0
Gets old new Kind = (p : ℕ) → Contains new p ↔ (Contains old p ⊎ Kind p)
