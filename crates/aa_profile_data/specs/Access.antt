-- Access letters and sets of them (apparmor.d(5), "File Permission Access Modes"). A set is the sum of its letters' bits.
use Rattle.std.specs.Prelude.{ℕ, Bool, ◌==◌, if◌then◌else◌, List, [], ◌∷◌, flat_map, Option, None, Some, option_and_then, bit_and, bit_or, codes}
use Rattle.bitflags.specs.Sets.{without as bits_without}

-- each letter's code and its bit, of those that a question may ask for: r, w, a, l, k, m
abbrev pub letters : List (ℕ × ℕ)
letters = (114, 1) ∷ (119, 2) ∷ (97, 4) ∷ (108, 8) ∷ (107, 16) ∷ (109, 32) ∷ []

-- the bit of a letter
abbrev pub bit_in : List (ℕ × ℕ) → ℕ → Option ℕ
bit_in [] letter = None
bit_in (row ∷ rows) letter = if letter == row.0 then Some row.1 else bit_in rows letter

abbrev pub bit_of : ℕ → Option ℕ
bit_of letter = bit_in letters letter

-- the code of the letter of exec, which rules have by an exec word
abbrev pub exec_letter : ℕ
exec_letter = 120

abbrev pub READ : ℕ
READ = 1

abbrev pub WRITE : ℕ
WRITE = 2

abbrev pub APPEND : ℕ
APPEND = 4

abbrev pub LINK : ℕ
LINK = 8

abbrev pub LOCK : ℕ
LOCK = 16

abbrev pub MAP : ℕ
MAP = 32

abbrev pub EXEC : ℕ
EXEC = 64

-- the bit of each letter that is printed, the letter of exec included
abbrev pub told_bit : ℕ → Option ℕ
told_bit letter = if letter == exec_letter then Some EXEC else bit_of letter

-- sets of the letters that a question may ask for are less than this
abbrev pub asked_letters : ℕ
asked_letters = 64

-- sets of the known letters are less than this
abbrev pub all_letters : ℕ
all_letters = 128

-- what both sets have
abbrev pub common : ℕ → ℕ → ℕ
common a b = bit_and a b

-- what either set has
abbrev pub union : ℕ → ℕ → ℕ
union a b = bit_or a b

-- what the first set has and the second doesn't
abbrev pub without : ℕ → ℕ → ℕ
without a b = bits_without 8 a b

-- a set has a letter
abbrev pub has : ℕ → ℕ → Bool
has set bit = bit_and set bit == bit

-- the needs that an access covers: each letter covers itself, and `w` also `a`
abbrev pub covered : ℕ → ℕ
covered access = if has access WRITE then union access APPEND else access

-- the set of some letters, added to a set, where each is known and none is there already
abbrev pub letters_onto : ℕ → List ℕ → Option ℕ
letters_onto set [] = Some set
letters_onto set (letter ∷ more) = option_and_then (λ bit. if has set bit then None else letters_onto (union set bit) more) (bit_of letter)

-- the set of what a request needs: at least one letter, each known and none twice
abbrev pub needs_of : List ℕ → Option ℕ
needs_of [] = None
needs_of (letter ∷ more) = letters_onto 0 (letter ∷ more)

-- a letter, where a set has it
abbrev pub letter_in : ℕ → ℕ → List ℕ
letter_in set letter = elim (told_bit letter) [
  | None ↦ []
  | Some bit ↦ if has set bit then letter ∷ [] else []
]

-- the letters of a set, in their order
abbrev pub letters_of : ℕ → List ℕ
letters_of set = flat_map (letter_in set) (codes "rwalkmx")
