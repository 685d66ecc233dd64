-- What holds in the middle of a pass.
use Rattle.std.specs.Prelude.{◌≡◌, ℕ, ◌+◌, ◌*◌, ◌≤◌, ◌<◌, Bool, false, List, [], length, drop, get_or, Some}
use Rattle.aa_glob_syntax.specs.Elements.{Element}
use Rattle.aa_glob_pattern.specs.Elements.{elements_of}
use Rattle.aa_glob_pattern.specs.Active.{AreActive, is_none, known_at, is_active, next_past, Past}
use Rattle.aa_glob_pattern.specs.code.Places.{AreAt}
use Rattle.aa_glob_pattern.specs.declared.places.Places.{Places}
use Rattle.aa_glob_pattern.specs.Reads.{Known, known}

-- what is known after so many elements of a text
abbrev pub known_of : List ℕ → ℕ → Known
known_of text at = known_at (known []) (elements_of text) at

-- Up to here the entries say what is active for the past with the byte, and after that still for the past without it.
abbrev pub ArePassed : List ℕ → Past → ℕ → ℕ → List Bool → Type 0
ArePassed text past byte here active =
    ((at : ℕ) → at ≤ here → at ≤ length (elements_of text) → get_or active at false ≡ is_active text (Some (next_past byte past)) at)
    × ((at : ℕ) → here < at → at ≤ length (elements_of text) → get_or active at false ≡ is_active text past at)

-- so many elements were read, and these are left
abbrev pub IsLeft : List ℕ → ℕ → List Element → Type 0
IsLeft text at left = (at ≤ length (elements_of text)) × (drop at (elements_of text) ≡ left) × (at + length left ≤ 2 * length text)

-- the places and what is active for any past are passed as far as here, if what was active before is known
abbrev pub IsPassed : List ℕ → Bool → ℕ → ℕ → Places → List Bool → List Bool → Type 0
IsPassed text first byte here places before active =
    (past : Past) → first ≡ is_none past → AreActive text past before
    → AreAt past byte (known_of text here) places × ArePassed text past byte here active

-- nothing is active up to here, unless the flag says that something is
abbrev pub TellsSome : ℕ → List Bool → Bool → Type 0
TellsSome here active told = told ≡ false → (at : ℕ) → at ≤ here → get_or active at false ≡ false
