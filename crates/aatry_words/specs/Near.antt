-- Names that are near a word, which may stand for one of them.
use Rattle.std.specs.Prelude.{◌≡◌, ℕ, ◌+◌, ◌<◌, ◌≤◌, ◌/◌, min, nat_eq, nat_lt, if◌then◌else◌, List, [], ◌∷◌, ◌++◌, All, length, Option, None, Some}
use Rattle.strsim.specs.Edits.{levenshtein_row}

-- how many bytes have to be inserted, removed or replaced at least to turn a word into a name
unfoldable pub distance : List ℕ → List ℕ → ℕ
distance word name = levenshtein_row nat_eq word name (length name)

-- how many of these changes a name may be away from a word that it is near: two, and no more than half the word's bytes
unfoldable pub most_changes : List ℕ → ℕ
most_changes word = min 2 (length word / 2)

-- the nearest of the names so far, if one is near, and the number of changes below which another is nearer
pub record SoFar : Type 0 where
  pub nearest : Option (List ℕ)
  pub below : ℕ

-- before the first name
abbrev pub begun : List ℕ → SoFar
begun word = record { nearest = None; below = most_changes word + 1 }

-- with one more name
abbrev pub with_next : List ℕ → SoFar → List ℕ → SoFar
with_next word so_far name =
    if nat_lt (distance word name) so_far.below then record { nearest = Some name; below = distance word name } else so_far

-- after all names
abbrev pub behind_all : List ℕ → SoFar → List (List ℕ) → SoFar
behind_all word so_far [] = so_far
behind_all word so_far (name ∷ names) = behind_all word (with_next word so_far name) names

-- the name of these that is nearest to a word, if one is near: the one that `IsNearest` speaks of
unfoldable pub nearest : List ℕ → List (List ℕ) → Option (List ℕ)
nearest word names = (behind_all word (begun word) names).nearest

-- The name of these that is nearest to a word, if one is near: it is no farther than that, those before it are farther away, and those after it no
-- nearer. None, where all are farther than that.
abbrev pub IsNearest : List (List ℕ) → List ℕ → Option (List ℕ) → Type 0
IsNearest names word None = All (λ name. most_changes word < distance word name) names
IsNearest names word (Some found) =
    (before behind : List (List ℕ)) × (names ≡ before ++ found ∷ behind)
    × (distance word found ≤ most_changes word)
    × All (λ name. distance word found < distance word name) before
    × All (λ name. distance word found ≤ distance word name) behind
