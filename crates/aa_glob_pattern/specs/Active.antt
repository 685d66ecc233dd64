-- Which beginnings of a pattern's text are active: those that a past reads. A past is the bytes of a path that were read so far.
use Rattle.std.specs.Prelude.{◌≡◌, ℕ, ◌≤◌, zero, suc, Bool, true, false, List, [], ◌∷◌, length, get_or, Option, None, Some}
use Rattle.aa_glob_syntax.specs.Elements.{Element}
use Rattle.aa_glob_pattern.specs.Elements.{elements_of}
use Rattle.aa_glob_pattern.specs.Reads.{Known, known, known_behind, reads, Texts}
use Rattle.aa_glob_pattern.specs.Trails.{trail_of}

-- the bytes that were read, the last one first; `None` before the first past, which is empty
abbrev pub Past : Type 0
Past = Option (List ℕ)

-- nothing was begun
abbrev pub is_none : Past → Bool
is_none None = true
is_none (Some past) = false

-- the past after another one: it has this byte more, unless it is the first
abbrev pub next_past : ℕ → Past → List ℕ
next_past byte None = []
next_past byte (Some past) = byte ∷ past

-- a past is one of these texts
abbrev pub is_among : Texts → Past → Bool
is_among texts None = false
is_among texts (Some past) = texts past

-- what is known after so many elements, from what is known before the first
abbrev pub known_at : Known → List Element → ℕ → Known
known_at k es zero = k
known_at k [] (suc at) = k
known_at k (e ∷ es) (suc at) = known_at (known_behind e k) es at

-- whether the past reads the beginning of so many elements of a text, which is then active
abbrev pub is_active : List ℕ → Past → ℕ → Bool
is_active text past at = is_among (known_at (known []) (elements_of text) at).here past

-- for each beginning of a text, the empty one first, it is given whether it is active; anything may follow these
abbrev pub AreActive : List ℕ → Past → List Bool → Type 0
AreActive text past active = (at : ℕ) → at ≤ length (elements_of text) → get_or active at false ≡ is_active text past at

-- no beginning of a text is active
abbrev pub AreUnset : List ℕ → List Bool → Type 0
AreUnset text active = (at : ℕ) → at ≤ length (elements_of text) → get_or active at false ≡ false

-- what is active for any past is turned into what is active for the past that continues it by this byte
abbrev pub ActiveGoesOn : List ℕ → Bool → ℕ → List Bool → List Bool → Type 0
ActiveGoesOn text first byte before after =
    (past : Past) → first ≡ is_none past → AreActive text past before → AreActive text (Some (next_past byte past)) after

-- from what is active for any past, the result says whether the past that continues it by this byte reads the whole text
abbrev pub TellsWhole : List ℕ → Bool → ℕ → List Bool → Bool → Type 0
TellsWhole text first byte before told =
    (past : Past) → first ≡ is_none past → AreActive text past before → told ≡ reads (trail_of text) (next_past byte past)
