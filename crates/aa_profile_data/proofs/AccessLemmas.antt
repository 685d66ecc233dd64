-- The sets that access letters spell.
use Rattle.std.proofs.Common.{◌≡◌, ℕ, ◌+◌, ◌<◌, true, false, List, [], ◌∷◌, length, drop, get_or, Some, refl, sym, ◌∙◌, arith, inl, inr, ltb, ◌==◌}
use Rattle.std.specs.List.{list_all}
use Rattle.std.proofs.lemmas.Bool.{cases_Bool, cond-true, cond-false, and_parts, ltb-true}
use Rattle.std.proofs.lemmas.List.{at_drop_more}
use Rattle.std.proofs.lemmas.Nat.{or_lt}
use Rattle.aa_profile_data.specs.Access.{bit_in, bit_of, letters, letters_onto, has, union}

letters_onto-letter : (set letter bit : ℕ) (more : List ℕ) → bit_of letter ≡ Some bit → has set bit ≡ false → letters_onto set (letter ∷ more) ≡ letters_onto (union set bit) more
letters_onto-letter set letter bit more known fresh = rw (known, fresh) refl

-- one more letter
pub letters_onto-next : (set : ℕ) (letters : List ℕ) (at bit : ℕ) → at < length letters → bit_of (get_or letters at 0) ≡ Some bit → has set bit ≡ false
    → letters_onto set (drop at letters) ≡ letters_onto (union set bit) (drop (at + 1) letters)
letters_onto-next set letters at bit within known fresh =
    at_drop_more (letters_onto set) letters at 0 within ∙ letters_onto-letter set (get_or letters at 0) bit (drop (at + 1) letters) known fresh

bit_in-known : (table : List (ℕ × ℕ)) (letter bit : ℕ) → list_all (λ row. ltb row.1 64) table ≡ true → bit_in table letter ≡ Some bit → bit < 64
bit_in-known [] letter bit all h = absurd (cc)
bit_in-known (row ∷ rows) letter bit all h =
    let parts = and_parts (ltb row.1 64) (list_all (λ row. ltb row.1 64) rows) all in
    elim (cases_Bool (letter == row.0)) [
      | inl here ↦
          let found : row.1 ≡ bit = let some = sym (cond-true (letter == row.0) _ _ here) ∙ h in cc in
          omega (arith, ltb-true row.1 64 parts.0)
      | inr later ↦ bit_in-known rows letter bit parts.1 (sym (cond-false (letter == row.0) _ _ later) ∙ h)
    ]

-- a set of known letters, and one more
pub union-known : (set letter bit : ℕ) → set < 64 → bit_of letter ≡ Some bit → union set bit < 64
union-known set letter bit within known = or_lt 6 set bit within (bit_in-known letters letter bit refl known)
