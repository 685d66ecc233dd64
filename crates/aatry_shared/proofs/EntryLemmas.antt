-- One more that has a change, among the entries of the table.
use Rattle.std.proofs.Common.{◌≡◌, ℕ, suc, ◌-◌, Bool, true, false, ◌||◌, cond, List, [], ◌∷◌, Option, None, Some, arith, refl, sym, ap, ◌∙◌}
use Rattle.std.specs.Prelude.{Vec, length, slice_get}
use Rattle.std.specs.Borrow.{Bor}
use Rattle.std.specs.Map.{lookup, set_value}
use Rattle.std.specs.Str.{bytes_eq}
use Rattle.std.specs.declared.alloc.Global.{Global}
use Rattle.indexmap.specs.IndexMap.{insert_entry}
use Rattle.aatry_shared.specs.SeenSharing.{Entry, seen_change, seen_entries, seen_names}
use Rattle.aatry_shared.specs.Sharing.{ends_in, has_change, names_of, with_having, with_name}
use Rattle.aatry_shared.specs.code.Keys.{same_key}
use Rattle.aatry_shared.specs.declared.change.Change.{Change as CodeChange}

-- the names of an entry
abbrev pub Names : Type 0
Names = Vec (Bor (List ℕ)) Global

abbrev pub found_names : Option Names → List (List ℕ)
found_names None = []
found_names (Some names) = seen_names names.items

-- those that have a change are those of the entry that is looked up
pub names-found : (entries : List Entry) (change : CodeChange)
    → names_of (seen_change change) (seen_entries entries) ≡ found_names (lookup (same_key change) entries)
names-found [] change = refl
names-found (entry ∷ entries) change = by (same_key change entry.0) refl (names-found entries change)
  where
    by : (same : Bool) → same_key change entry.0 ≡ same
        → names_of (seen_change change) (seen_entries entries) ≡ found_names (lookup (same_key change) entries)
        → names_of (seen_change change) (seen_entries (entry ∷ entries)) ≡ found_names (lookup (same_key change) (entry ∷ entries))
    by true h rest = rw h refl
    by false h rest = rw h rest

-- where none is found, none has the change
pub none-has : (entries : List Entry) (change : CodeChange) → lookup (same_key change) entries ≡ None
    → has_change (seen_entries entries) (seen_change change) ≡ false
none-has [] change none = refl
none-has (entry ∷ entries) change none = by (same_key change entry.0) refl none (none-has entries change)
  where
    by : (same : Bool) → same_key change entry.0 ≡ same → cond same (Some entry.1) (lookup (same_key change) entries) ≡ None
        → (lookup (same_key change) entries ≡ None → has_change (seen_entries entries) (seen_change change) ≡ false)
        → has_change (seen_entries (entry ∷ entries)) (seen_change change) ≡ false
    by true h none rest = absurd (cc)
    by false h none rest = rw h (rest none)

-- names that are written where one was found
pub set-names : (entries : List Entry) (name : List ℕ) (change : CodeChange) (had names : Names) → lookup (same_key change) entries ≡ Some had
    → seen_names names.items ≡ with_name (seen_names had.items) name
    → seen_entries (set_value (same_key change) entries names) ≡ with_having (record { name = name; change = seen_change change }) (seen_entries entries)
set-names [] name change had names found written = absurd (cc)
set-names (entry ∷ entries) name change had names found written =
    by (same_key change entry.0) refl found (λ more. set-names entries name change had names more written)
  where
    by : (same : Bool) → same_key change entry.0 ≡ same → cond same (Some entry.1) (lookup (same_key change) entries) ≡ Some had
        → (lookup (same_key change) entries ≡ Some had
        → seen_entries (set_value (same_key change) entries names) ≡ with_having (record { name = name; change = seen_change change }) (seen_entries entries))
        → seen_entries (set_value (same_key change) (entry ∷ entries) names)
        ≡ with_having (record { name = name; change = seen_change change }) (seen_entries (entry ∷ entries))
    by true h found rest =
        let own : found_names (Some entry.1) ≡ found_names (Some had) = ap found_names found in
        let all : seen_names names.items ≡ with_name (seen_names entry.1.items) name = written ∙ ap (λ before. with_name before name) (sym own) in
        rw h (ap (λ told. record { change = seen_change entry.0; names = told } ∷ seen_entries entries) all)
    by false h found rest = rw h (ap (λ groups. record { change = seen_change entry.0; names = seen_names entry.1.items } ∷ groups) (rest found))

-- an entry that is put behind the others
pub put-new : (entries : List Entry) (name : List ℕ) (change : CodeChange) (names : Names)
    → has_change (seen_entries entries) (seen_change change) ≡ false → seen_names names.items ≡ name ∷ []
    → seen_entries (insert_entry same_key entries change names) ≡ with_having (record { name = name; change = seen_change change }) (seen_entries entries)
put-new [] name change names none one = ap (λ told. record { change = seen_change change; names = told } ∷ []) one
put-new (entry ∷ entries) name change names none one =
    by (same_key change entry.0) refl none (λ more. put-new entries name change names more one)
  where
    by : (same : Bool) → same_key change entry.0 ≡ same → (same || has_change (seen_entries entries) (seen_change change)) ≡ false
        → (has_change (seen_entries entries) (seen_change change) ≡ false
        → seen_entries (insert_entry same_key entries change names) ≡ with_having (record { name = name; change = seen_change change }) (seen_entries entries))
        → seen_entries (insert_entry same_key (entry ∷ entries) change names)
        ≡ with_having (record { name = name; change = seen_change change }) (seen_entries (entry ∷ entries))
    by true h none rest = absurd (cc)
    by false h none rest = rw h (ap (λ groups. record { change = seen_change entry.0; names = seen_names entry.1.items } ∷ groups) (rest none))

-- a name by the last one
abbrev pub is_last : Option (Bor (List ℕ)) → List ℕ → Bool
is_last None name = false
is_last (Some last) name = bytes_eq last.now name

pub ends-in-last : (names : List (Bor (List ℕ))) (name : List ℕ)
    → ends_in (seen_names names) name ≡ is_last (slice_get names (length names - 1)) name
ends-in-last [] name = refl
ends-in-last (last ∷ []) name = refl
ends-in-last (first ∷ second ∷ names) name =
    let step : length (first ∷ second ∷ names) - 1 ≡ suc (length (second ∷ names) - 1) = omega arith in
    ends-in-last (second ∷ names) name ∙ ap (λ place. is_last (slice_get (first ∷ second ∷ names) place) name) (sym step)
