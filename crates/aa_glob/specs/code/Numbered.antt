-- Keys of sets of bytes, each with the number that it was given.
use Rattle.std.specs.Prelude.{◌≡◌, ℕ, zero, suc, ◌+◌, ◌<◌, ◌≤◌, ◌==◌, if◌then◌else◌, List, [], ◌∷◌, length, Vec}
use Rattle.std.specs.BTreeMap.{is_at}
use Rattle.std.specs.Cmp.Lexicographic.{slice_cmp}
use Rattle.std.specs.List.{AllByRecursion}
use Rattle.std.specs.Map.{lookup}
use Rattle.std.specs.Ordering.{nat_cmp}
use Rattle.aa_glob.specs.Numbers.{first_set, most_number, number_from}

-- the key that has a number, and no bytes where none has it
abbrev pub key_numbered : {A : Type 0} → ℕ → List (Vec ℕ A × ℕ) → List ℕ
key_numbered n [] = []
key_numbered n (entry ∷ entries) = if entry.1 == n then entry.0.items else key_numbered n entries

-- the keys that have so many numbers, from this number on
abbrev pub keys_from : {A : Type 0} → ℕ → ℕ → List (Vec ℕ A × ℕ) → List (List ℕ)
keys_from first zero entries = []
keys_from first (suc count) entries = key_numbered first entries ∷ keys_from (first + 1) count entries

-- the keys in the order of their numbers, which is that in which they were met
abbrev pub keys_in_order : {A : Type 0} → List (Vec ℕ A × ℕ) → List (List ℕ)
keys_in_order entries = keys_from first_set (length entries) entries

-- each number is less than this one
abbrev pub AreBelow : {A : Type 0} → ℕ → List (Vec ℕ A × ℕ) → Type 0
AreBelow n entries = AllByRecursion (λ entry. entry.1 < n) entries

-- each key has its number, and as many numbers as there are keys were given
pub record AreNumbered {A : Type 0} (entries : List (Vec ℕ A × ℕ)) : Type 0 where
  pub told : (key : List ℕ) → number_from first_set key (keys_in_order entries) ≡ lookup (is_at (λ kept. slice_cmp nat_cmp key kept.items)) entries
  pub given : AreBelow (first_set + length entries) entries
  pub few : first_set + length entries ≤ most_number
