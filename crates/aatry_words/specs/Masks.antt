-- The mask of a request for a file, as the kernel writes it: letters in any order. What `ask` asks for by `w` it writes by three letters: `w`, `c`
-- for a file that is created, and `d` for one that is deleted.
use Rattle.std.specs.Prelude.{ℕ, ◌==◌, ◌||◌, Bool, if◌then◌else◌, List, [], ◌∷◌, Option, None, Some, option_and_then}
use Rattle.std.specs.List.{list_any}
use Rattle.aa_profile_data.specs.Access.{bit_of, needs_of, union}

abbrev pub letter_of_create : ℕ
letter_of_create = 99

abbrev pub letter_of_delete : ℕ
letter_of_delete = 100

abbrev pub letter_of_write : ℕ
letter_of_write = 119

-- a letter is in masks only
abbrev pub is_mask_letter : ℕ → Bool
is_mask_letter letter = letter == letter_of_create || letter == letter_of_delete

-- the letter of an access for a letter of a mask
abbrev pub asked_letter : ℕ → ℕ
asked_letter letter = if is_mask_letter letter then letter_of_write else letter

-- the set of some letters of a mask, added to a set, where each is known
abbrev pub needs_onto : ℕ → List ℕ → Option ℕ
needs_onto set [] = Some set
needs_onto set (letter ∷ more) = option_and_then (λ bit. needs_onto (union set bit) more) (bit_of (asked_letter letter))

-- the set of the needs that a mask stands for: at least one letter
abbrev pub needs_of_mask : List ℕ → Option ℕ
needs_of_mask [] = None
needs_of_mask (letter ∷ more) = needs_onto 0 (letter ∷ more)

-- an access has a letter that is in masks only
abbrev pub is_mask : List ℕ → Bool
is_mask access = list_any is_mask_letter access

-- The needs of an access that may be a mask: those of the mask, and else those of the letters.
abbrev pub needs_meant : List ℕ → Option ℕ
needs_meant access = if is_mask access then needs_of_mask access else needs_of access
