-- Which classes the patterns have that end at a state or at one that it leads to, as far as it matters whether two of them differ.
use Rattle.std.specs.Prelude.{◌≡◌, ℕ, Bool, true, false, not, ◌==◌}
use Rattle.aa_glob_pairs.specs.declared.below.Below.{Below}
use Rattle.aa_glob_pairs.specs.declared.below.Below.TheVariants.{Nothing, One, Several}

-- a pattern of this class may end there
abbrev pub Covers : Below → ℕ → Type 0
Covers Nothing class = ⊥
Covers (One own) class = class ≡ own
Covers Several class = Unit

-- patterns of all these classes may end there
abbrev pub Includes : Below → Below → Type 0
Includes more less = (class : ℕ) → Covers less class → Covers more class

-- patterns of two classes may end there, one by the first and one by the second
abbrev pub can_clash : Below → Below → Bool
can_clash Nothing other = false
can_clash (One own) Nothing = false
can_clash (One own) (One another) = not (own == another)
can_clash (One own) Several = true
can_clash Several Nothing = false
can_clash Several (One another) = true
can_clash Several Several = true
