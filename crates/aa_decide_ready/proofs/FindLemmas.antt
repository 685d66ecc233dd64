-- The slot in which a name is found, and the entry of the name.
use Rattle.std.proofs.Common.{◌≡◌, ℕ, suc, ◌+◌, Bool, true, false, cond, List, [], ◌∷◌, Option, None, Some, refl, sym, ap, ◌∙◌, arith}
use Rattle.std.specs.List.{position_from}
use Rattle.std.specs.Option.{is_some, option_map}
use Rattle.std.proofs.lemmas.Iterator.Adapters.{position_from-zero}
use Rattle.aa_decide_ready.specs.Named.{entry_named, is_named}
use Rattle.aa_decide_ready.specs.SlotNames.{holds, slot_named}
use Rattle.aa_decide_ready.specs.Entries.{Loaded}
use Rattle.aa_decide_ready.specs.Slots.{entry_at, filled}

-- the first slot of a name, slot by slot
abbrev pub found : List ℕ → List (Option Loaded) → Option ℕ
found name [] = None
found name (slot ∷ slots) = cond (holds name slot) (Some 0) (option_map (λ k. suc k) (found name slots))

from-found : (name : List ℕ) (slots : List (Option Loaded)) (start : ℕ) → position_from (holds name) start slots ≡ option_map (λ k. start + k) (found name slots)
from-found name [] start = refl
from-found name (slot ∷ slots) start = by (holds name slot) (found name slots) (from-found name slots (start + 1))
  where
    on : (k : ℕ) → start + 1 + k ≡ start + suc k
    on k = omega arith

    here : start ≡ start + 0
    here = omega arith

    next : (rest : Option ℕ) → option_map (λ k. start + 1 + k) rest ≡ option_map (λ k. start + k) (option_map (λ k. suc k) rest)
    next None = refl
    next (Some k) = ap (λ (n : ℕ). Some n) (on k)

    by : (held : Bool) (rest : Option ℕ) → position_from (holds name) (start + 1) slots ≡ option_map (λ k. start + 1 + k) rest
        → cond held (Some start) (position_from (holds name) (start + 1) slots) ≡ option_map (λ k. start + k) (cond held (Some 0) (option_map (λ k. suc k) rest))
    by true rest h = ap (λ (n : ℕ). Some n) here
    by false rest h = h ∙ next rest

same_place : (k : Option ℕ) → option_map (λ k. 0 + k) k ≡ k
same_place None = refl
same_place (Some k) = ap (λ (n : ℕ). Some n) (omega arith)

pub found-is : (name : List ℕ) (slots : List (Option Loaded)) → slot_named name slots ≡ found name slots
found-is name slots = position_from-zero (holds name) slots ∙ from-found name slots 0 ∙ same_place (found name slots)

-- a name was found in a slot, which holds its entry, or it has none
abbrev Finds : List (Option Loaded) → Option ℕ → Option Loaded → Type 0
Finds slots None there = there ≡ None
Finds slots (Some k) there = (entry_at slots k ≡ there) × (is_some (entry_at slots k) ≡ true)

later : (slot : Option Loaded) (slots : List (Option Loaded)) (k : Option ℕ) (there : Option Loaded) → Finds slots k there → Finds (slot ∷ slots) (option_map (λ k. suc k) k) there
later slot slots None there h = h
later slot slots (Some k) there h = h

finds : (name : List ℕ) (slots : List (Option Loaded)) → Finds slots (found name slots) (entry_named name (filled slots))
finds name [] = refl
finds name (None ∷ slots) = later None slots (found name slots) (entry_named name (filled slots)) (finds name slots)
finds name (Some entry ∷ slots) = by (is_named name entry) (finds name slots)
  where
    by : (here : Bool) → Finds slots (found name slots) (entry_named name (filled slots))
        → Finds (Some entry ∷ slots) (cond here (Some 0) (option_map (λ k. suc k) (found name slots))) (cond here (Some entry) (entry_named name (filled slots)))
    by true rest = (refl, refl)
    by false rest = later (Some entry) slots (found name slots) (entry_named name (filled slots)) rest

-- the entry in the slot where a name was found
pub entry-found : (name : List ℕ) (slots : List (Option Loaded)) (k : ℕ) → slot_named name slots ≡ Some k → entry_at slots k ≡ entry_named name (filled slots)
entry-found name slots k h = by (found name slots) (sym (found-is name slots) ∙ h) (finds name slots)
  where
    by : (j : Option ℕ) → j ≡ Some k → Finds slots j (entry_named name (filled slots)) → entry_at slots k ≡ entry_named name (filled slots)
    by None e f = absurd (cc)
    by (Some j) e f = let same : j ≡ k = cc in ap (entry_at slots) (sym same) ∙ f.0

-- no name is found where no entry has it
pub entry-missing : (name : List ℕ) (slots : List (Option Loaded)) → slot_named name slots ≡ None → entry_named name (filled slots) ≡ None
entry-missing name slots h = by (found name slots) (sym (found-is name slots) ∙ h) (finds name slots)
  where
    by : (j : Option ℕ) → j ≡ None → Finds slots j (entry_named name (filled slots)) → entry_named name (filled slots) ≡ None
    by None e f = f
    by (Some j) e f = absurd (cc)

-- an entry stands in the slot where a name was found
pub entry-there : (name : List ℕ) (slots : List (Option Loaded)) (k : ℕ) → slot_named name slots ≡ Some k → is_some (entry_at slots k) ≡ true
entry-there name slots k h = by (found name slots) (sym (found-is name slots) ∙ h) (finds name slots)
  where
    by : (j : Option ℕ) → j ≡ Some k → Finds slots j (entry_named name (filled slots)) → is_some (entry_at slots k) ≡ true
    by None e f = absurd (cc)
    by (Some j) e f = let same : j ≡ k = cc in ap (λ n. is_some (entry_at slots n)) (sym same) ∙ f.1
