-- Names that are paths, of which a word may be the last part.
use Rattle.std.specs.Prelude.{ℕ, ◌==◌, ◌&&◌, ◌||◌, Bool, false, if◌then◌else◌, List, [], ◌∷◌, Option, None, Some}
use Rattle.std.specs.Str.{bytes_eq}
use Rattle.aatry_words.specs.Near.{nearest}

abbrev pub slash : ℕ
slash = 47

-- a word is the end of a name, after one of its slashes
abbrev pub is_end_of : List ℕ → List ℕ → Bool
is_end_of word [] = false
is_end_of word (byte ∷ more) = (byte == slash && bytes_eq more word) || is_end_of word more

-- the first of some names of which a word is the end
abbrev pub first_ending : List ℕ → List (List ℕ) → Option (List ℕ)
first_ending word [] = None
first_ending word (name ∷ names) = if is_end_of word name then Some name else first_ending word names

-- the first of two names, if it is there, and else the second
abbrev pub or_else : Option (List ℕ) → Option (List ℕ) → Option (List ℕ)
or_else (Some name) other = Some name
or_else None other = other

-- Which of some names, which are paths, a word may stand for: the first of which it is the end, and else the nearest.
abbrev pub near_path : List ℕ → List (List ℕ) → Option (List ℕ)
near_path word names = or_else (first_ending word names) (nearest word names)
