-- Sets of states in the order in which they were found, and how each was found first.
use Rattle.std.specs.Prelude.{◌≡◌, ◌≢◌, ℕ, ◌^◌, ◌<◌, ◌≤◌, List, [], ◌∷◌, length, slice_index_or, All, AllPairs}
use Rattle.aa_glob_nfa.specs.Graphs.{Graph}
use Rattle.aa_glob_nfa.specs.Fronts.{IsLive}
use Rattle.aa_glob_nfa.specs.Runs.{IsWhole, LeadsTo}
use Rattle.aa_glob_paths.specs.declared.origin.Origin.{Origin}

-- a set of states as a list: each once, in rising order, where there are so many states
pub record IsStateSet (room : ℕ) (set : List ℕ) : Type 0 where
  pub live : IsLive room set
  pub rise : AllPairs (λ q r. q < r) set

-- a set of states, and how it was found first
pub record FoundSet : Type 0 where
  pub set : List ℕ
  pub origin : Origin

-- no state, found nowhere
abbrev pub no_set : FoundSet
no_set = record { set = []; origin = record { from = 0; byte = 0 } }

-- what was found under a number
abbrev pub found_at : List FoundSet → ℕ → FoundSet
found_at found n = slice_index_or found n no_set

-- the set of a number
abbrev pub set_at : List FoundSet → ℕ → List ℕ
set_at found n = (found_at found n).set

-- how the set of a number was found first
abbrev pub origin_at : List FoundSet → ℕ → Origin
origin_at found n = (found_at found n).origin

-- the set of a number was found from an earlier one by a byte
pub record ComesOfEarlier (g : Graph) (found : List FoundSet) (n : ℕ) : Type 0 where
  pub earlier : (origin_at found n).from < n
  pub is_byte : (origin_at found n).byte < 2 ^ 8
  pub leads : LeadsTo g (set_at found (origin_at found n).from) (origin_at found n).byte (set_at found n)

-- These sets, of which none occurs twice, are live after texts of bytes: the first after the empty one, and each other one after a text of an
-- earlier one and one more byte. Those found from one set come before those found from a later one. There are so many states.
pub record AreFound (g : Graph) (room : ℕ) (found : List FoundSet) : Type 0 where
  pub some : 0 < length found
  pub start : IsWhole g [] (set_at found 0)
  pub sets : All (λ f. IsStateSet room f.set) found
  pub each : (n : ℕ) → 0 < n → n < length found → ComesOfEarlier g found n
  pub in_turn : AllPairs (λ one later. one.origin.from ≤ later.origin.from) found
  pub apart : AllPairs (λ one later. one.set ≢ later.set) found

-- The set of a number was found by a text, which is written with its last byte first: it is traced from set to set, back to the first.
abbrev pub IsFoundBehind : List FoundSet → ℕ → List ℕ → Type 0
IsFoundBehind found n [] = n ≡ 0
IsFoundBehind found n (c ∷ past) = (0 < n) × (c ≡ (origin_at found n).byte) × IsFoundBehind found (origin_at found n).from past

-- the set of a number was found by a text that is no longer than this one
abbrev pub IsFoundWithin : List FoundSet → ℕ → List ℕ → Type 0
IsFoundWithin found n past = (text : List ℕ) → IsFoundBehind found n text → length text ≤ length past

-- the sets are in the order of the lengths of the texts by which they were found
abbrev pub AreByLength : List FoundSet → Type 0
AreByLength found = (n k : ℕ) (past : List ℕ) → n ≤ k → k < length found → IsFoundBehind found k past → IsFoundWithin found n past
