-- The sets that masks tell.
use Rattle.std.proofs.Common.{◌≡◌, ℕ, ◌+◌, ◌<◌, true, List, [], ◌∷◌, length, drop, get_or, None, Some, refl, sym, ◌∙◌, arith, inl, inr, ltb, ◌==◌}
use Rattle.std.specs.List.{list_all}
use Rattle.std.proofs.lemmas.Bool.{cases_Bool, cond-true, cond-false, and_parts, ltb-true}
use Rattle.std.proofs.lemmas.List.{at_drop_more}
use Rattle.std.proofs.lemmas.Nat.{or_lt}
use Rattle.aa_profile_data.specs.Access.{bit_in, bit_of, letters, union}
use Rattle.aatry_words.specs.Masks.{asked_letter, needs_onto}

-- one more letter
pub needs_onto-next : (set : ℕ) (mask : List ℕ) (at bit : ℕ) → at < length mask → bit_of (asked_letter (get_or mask at 0)) ≡ Some bit
    → needs_onto set (drop at mask) ≡ needs_onto (union set bit) (drop (at + 1) mask)
needs_onto-next set mask at bit within known = at_drop_more (needs_onto set) mask at 0 within ∙ rw known refl

-- a letter that isn't known
pub needs_onto-unknown : (set : ℕ) (mask : List ℕ) (at : ℕ) → at < length mask → bit_of (asked_letter (get_or mask at 0)) ≡ None
    → needs_onto set (drop at mask) ≡ None
needs_onto-unknown set mask at within unknown = at_drop_more (needs_onto set) mask at 0 within ∙ rw unknown refl

bit_in-known : (table : List (ℕ × ℕ)) (letter bit : ℕ) → list_all (λ row. ltb row.1 64) table ≡ true → bit_in table letter ≡ Some bit → bit < 64
bit_in-known [] letter bit all h = absurd (cc)
bit_in-known (row ∷ rows) letter bit all h =
    let parts = and_parts (ltb row.1 64) (list_all (λ row. ltb row.1 64) rows) all in
    elim (cases_Bool (letter == row.0)) [
      | inl here ↦
          let found : row.1 ≡ bit = let some = sym (cond-true (letter == row.0) _ _ here) ∙ h in cc in
          omega (arith, ltb-true row.1 64 parts.0)
      | inr later ↦ bit_in-known rows letter bit parts.1 (sym (cond-false (letter == row.0) _ _ later) ∙ h)
    ]

-- a set of known letters, and one more
pub union-known : (set letter bit : ℕ) → set < 64 → bit_of letter ≡ Some bit → union set bit < 64
union-known set letter bit within known = or_lt 6 set bit within (bit_in-known letters letter bit refl known)
