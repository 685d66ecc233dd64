-- Letters that a question may ask for, as they are meant.
use Rattle.std.proofs.Common.{◌≡◌, ℕ, ◌==◌, ◌||◌, Bool, true, false, List, [], ◌∷◌, refl, sym, ap, ◌∙◌, inl, inr, Option, None, Some}
use Rattle.std.specs.Prelude.{if◌then◌else◌, option_and_then}
use Rattle.std.specs.List.{list_any}
use Rattle.std.proofs.lemmas.Bool.{cases_Bool, cond-false, eqb-true}
use Rattle.aa_profile_data.specs.Access.{bit_of, has, letters_onto, needs_of, union}
use Rattle.aatry_words.specs.Masks.{is_mask, is_mask_letter, letter_of_create, letter_of_delete, needs_meant, needs_of_mask}

-- a known letter is none that is unknown
isnt : (letter bit other : ℕ) → bit_of letter ≡ Some bit → bit_of other ≡ None → (letter == other) ≡ false
isnt letter bit other known unknown = elim (cases_Bool (letter == other)) [
  | inl same ↦
      let some : Some bit ≡ None = sym known ∙ ap bit_of (eqb-true letter other same) ∙ unknown in
      absurd (cc)
  | inr differs ↦ differs
]

plain-letter : (letter bit : ℕ) → bit_of letter ≡ Some bit → is_mask_letter letter ≡ false
plain-letter letter bit known =
    ap (λ b. b || (letter == letter_of_delete)) (isnt letter bit letter_of_create known refl) ∙ isnt letter bit letter_of_delete known refl

plain-letters : (set : ℕ) (letters : List ℕ) (needs : ℕ) → letters_onto set letters ≡ Some needs → list_any is_mask_letter letters ≡ false
plain-letters set [] needs h = refl
plain-letters set (letter ∷ more) needs h = by (bit_of letter) refl (λ bit. plain-letters (union set bit) more needs) h
  where
    of_bit : (bit : ℕ) (twice : Bool) → (if twice then None else letters_onto (union set bit) more) ≡ Some needs → letters_onto (union set bit) more ≡ Some needs
    of_bit bit true h = absurd (cc)
    of_bit bit false h = h

    by : (found : Option ℕ) → bit_of letter ≡ found
        → ((bit : ℕ) → letters_onto (union set bit) more ≡ Some needs → list_any is_mask_letter more ≡ false)
        → option_and_then (λ bit. if has set bit then None else letters_onto (union set bit) more) found ≡ Some needs
        → list_any is_mask_letter (letter ∷ more) ≡ false
    by None is behind h = absurd (cc)
    by (Some bit) is behind h =
        ap (λ b. b || list_any is_mask_letter more) (plain-letter letter bit is) ∙ behind bit (of_bit bit (has set bit) h)

pub letters-mean : (access : List ℕ) (needs : ℕ) → needs_of access ≡ Some needs → needs_meant access ≡ Some needs
letters-mean [] needs h = absurd (cc)
letters-mean (letter ∷ more) needs h =
    cond-false (is_mask (letter ∷ more)) (needs_of_mask (letter ∷ more)) (needs_of (letter ∷ more)) (plain-letters 0 (letter ∷ more) needs h) ∙ h
