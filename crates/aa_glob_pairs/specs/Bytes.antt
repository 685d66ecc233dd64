-- The bytes of a step.
use Rattle.std.specs.Prelude.{◌≡◌, ℕ, ◌^◌, ◌<◌, Bool, true, false, not, ◌==◌, Option, None, Some}
use Rattle.aa_bytes.specs.ByteMaps.{in_map}
use Rattle.aa_bytes.specs.ByteSets.{is_inside}
use Rattle.aa_glob_pairs.specs.declared.bytes.Bytes.{Bytes}
use Rattle.aa_glob_pairs.specs.declared.bytes.Bytes.TheVariants.{One, Inside, Any, Set}

-- a byte is in the set
abbrev pub in_bytes : Bytes → ℕ → Bool
in_bytes (One b) c = c == b
in_bytes Inside c = is_inside c
in_bytes Any c = not (c == 0)
in_bytes (Set map) c = in_map map c

-- a byte is in the set, if there is one
abbrev pub is_among : Option Bytes → ℕ → Bool
is_among None c = false
is_among (Some bytes) c = in_bytes bytes c

-- a byte is in both sets
abbrev pub BothHave : Bytes → Bytes → ℕ → Type 0
BothHave first second c = (in_bytes first c ≡ true) × (in_bytes second c ≡ true)

-- two steps share a byte
abbrev pub IsShared : Bytes → Bytes → Type 0
IsShared first second = (c : ℕ) × (c < 2 ^ 8) × BothHave first second c
