-- The first slot of each name, slot by slot.
use Rattle.std.proofs.Common.{◌≡◌, ℕ, suc, ◌+◌, ◌<◌, Bool, true, false, cond, List, [], ◌∷◌, ◌++◌, length, take, slice_index_or, Option, None, Some, refl, sym, ap, ◌∙◌, arith}
use Rattle.std.specs.Prelude.{if◌then◌else◌}
use Rattle.std.specs.List.{position_from}
use Rattle.std.specs.Option.{is_some}
use Rattle.std.specs.Str.{bytes_eq}
use Rattle.std.proofs.lemmas.Iterator.Adapters.{position_from-zero}
use Rattle.std.proofs.lemmas.List.{length-take-le, take_more}
use Rattle.std.proofs.lemmas.Slice.Eq.{bytes_eq-Decides}
use Rattle.aa_bytes.specs.NameMaps.{GivesNumber, number_of}
use Rattle.aa_bytes.specs.declared.name_map.NameMap.{NameMap}
use Rattle.aa_decide_ready.specs.Entries.{Loaded}
use Rattle.aa_decide_ready.specs.SlotNames.{holds, slot_named}
use Rattle.aa_decide_ready.specs.Indexes.{first_of}

position-push : (test : Option Loaded → Bool) (start : ℕ) (slots : List (Option Loaded)) (slot : Option Loaded)
    → position_from test start (slots ++ slot ∷ []) ≡ first_of (position_from test start slots) (cond (test slot) (Some (start + length slots)) None)
position-push test start [] slot = ap (λ n. cond (test slot) (Some n) None) (omega arith)
position-push test start (other ∷ slots) slot = by (test other) (position-push test (start + 1) slots slot)
  where
    on : start + 1 + length slots ≡ start + suc (length slots)
    on = omega arith

    by : (here : Bool) → position_from test (start + 1) (slots ++ slot ∷ []) ≡ first_of (position_from test (start + 1) slots) (cond (test slot) (Some (start + 1 + length slots)) None)
        → cond here (Some start) (position_from test (start + 1) (slots ++ slot ∷ []))
        ≡ first_of (cond here (Some start) (position_from test (start + 1) slots)) (cond (test slot) (Some (start + suc (length slots))) None)
    by true h = refl
    by false h = h ∙ ap (λ n. first_of (position_from test (start + 1) slots) (cond (test slot) (Some n) None)) on

-- one slot more
pub slot_named-more : (name : List ℕ) (slots : List (Option Loaded)) (place : ℕ) (given : Option Loaded) → place < length slots
    → slot_named name (take (place + 1) slots) ≡ first_of (slot_named name (take place slots)) (cond (holds name (slice_index_or slots place given)) (Some place) None)
slot_named-more name slots place given h =
    let long = length-take-le place slots (omega arith) in
    let same : 0 + length (take place slots) ≡ place = omega arith in
    ap (slot_named name) (take_more slots place given h)
    ∙ position_from-zero (holds name) (take place slots ++ slice_index_or slots place given ∷ [])
    ∙ position-push (holds name) 0 (take place slots) (slice_index_or slots place given)
    ∙ (λ i. first_of (sym (position_from-zero (holds name) (take place slots)) i) (cond (holds name (slice_index_or slots place given)) (Some (same i)) None))

first-none : (first : Option ℕ) → first ≡ first_of first None
first-none None = refl
first-none (Some slot) = refl

pub not_some : (slot : Option ℕ) → is_some slot ≡ false → slot ≡ None
not_some None h = refl
not_some (Some slot) h = absurd (cc)

-- a name that had no slot is noted with one
pub noted-new : (old new : NameMap) (entry : Loaded) (place : ℕ) → number_of old entry.profile.name ≡ None → GivesNumber old entry.profile.name place new
    → (name : List ℕ) → number_of new name ≡ first_of (number_of old name) (cond (holds name (Some entry)) (Some place) None)
noted-new old new entry place none gives name = gives name ∙ by (bytes_eq entry.profile.name name) refl
  where
    by : (same : Bool) → bytes_eq entry.profile.name name ≡ same
        → (if same then Some place else number_of old name) ≡ first_of (number_of old name) (cond same (Some place) None)
    by true is = rw (← (bytes_eq-Decides entry.profile.name name).0 is, none) refl
    by false is = first-none (number_of old name)

-- an empty slot notes nothing
pub noted-none : (old : NameMap) (name : List ℕ) (place : ℕ) → number_of old name ≡ first_of (number_of old name) (cond (holds name None) (Some place) None)
noted-none old name place = first-none (number_of old name)

-- nor does one whose name has a slot
pub noted-before : (old : NameMap) (name : List ℕ) (entry : Loaded) (place : ℕ) → is_some (number_of old entry.profile.name) ≡ true
    → number_of old name ≡ first_of (number_of old name) (cond (holds name (Some entry)) (Some place) None)
noted-before old name entry place h = by (bytes_eq entry.profile.name name) refl
  where
    there : (slot : Option ℕ) → is_some slot ≡ true → slot ≡ first_of slot (Some place)
    there None e = absurd (cc)
    there (Some slot) e = refl

    by : (same : Bool) → bytes_eq entry.profile.name name ≡ same → number_of old name ≡ first_of (number_of old name) (cond same (Some place) None)
    by true is = there (number_of old name) (ap (λ name. is_some (number_of old name)) (sym ((bytes_eq-Decides entry.profile.name name).0 is)) ∙ h)
    by false is = first-none (number_of old name)
