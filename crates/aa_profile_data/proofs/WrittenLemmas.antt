-- The text of an access by its first part.
use Rattle.std.proofs.lemmas.List.{take_all}
use Rattle.std.proofs.Common.{◌≡◌, ◌≤◌, ◌-◌, ℕ, List, [], ◌∷◌, Option, None, Some, ap, arith, drop, get_or, length, refl, sym, take, ◌∙◌}
use Rattle.std.specs.Prelude.{option_and_then}
use Rattle.std.specs.Option.{option_map}
use Rattle.aa_profile_data.specs.Access.{told_bit}
use Rattle.aa_profile_data.specs.ExecWords.{exec_word}
use Rattle.aa_profile_data.specs.WrittenAccess.{access_with, with_letter, with_word}
use Rattle.aa_profile_data.specs.code.Beginnings.{first_word}
use Rattle.aa_profile_data.specs.declared.exec_word.ExecWord.{ExecWord}
use Rattle.aa_profile_data.specs.declared.written.WrittenAccess.{WrittenAccess}

-- what a text says that begins with an exec word or with a letter
abbrev pub by_first : WrittenAccess → ℕ → List ℕ → Option (ExecWord × List ℕ) → Option WrittenAccess
by_first before letter behind read = elim read [
  | Some read ↦ access_with (with_word before read.0) read.1
  | None ↦ option_and_then (λ bit. access_with (with_letter before bit) behind) (told_bit letter)
]

pub access_with-first : (before : WrittenAccess) (letter : ℕ) (behind : List ℕ) → access_with before (letter ∷ behind) ≡ by_first before letter behind (first_word (letter ∷ behind))
access_with-first before a [] = refl
access_with-first before a (b ∷ []) = by (exec_word (a ∷ b ∷ []))
  where
    by : (word : Option ExecWord)
        → (elim word [ Some word ↦ Some (with_word before word) | None ↦ option_and_then (λ bit. access_with (with_letter before bit) (b ∷ [])) (told_bit a) ])
        ≡ by_first before a (b ∷ []) (option_map (λ word. (word, [])) word)
    by (Some word) = refl
    by None = refl
access_with-first before a (b ∷ c ∷ more) = by (exec_word (a ∷ b ∷ c ∷ [])) (exec_word (a ∷ b ∷ []))
  where
    by : (three two : Option ExecWord)
        → (elim three [
          | Some word ↦ access_with (with_word before word) more
          | None ↦ elim two [
            | Some word ↦ access_with (with_word before word) (c ∷ more)
            | None ↦ option_and_then (λ bit. access_with (with_letter before bit) (b ∷ c ∷ more)) (told_bit a)
          ]
        ])
        ≡ by_first before a (b ∷ c ∷ more) (elim (option_map (λ word. (word, more)) three) [ Some read ↦ Some read | None ↦ option_map (λ word. (word, c ∷ more)) two ])
    by (Some word) two = refl
    by None (Some word) = refl
    by None None = refl

-- a text that begins with an exec word
pub read_first : (before : WrittenAccess) (text : List ℕ) (word : ExecWord) (more : List ℕ) → first_word text ≡ Some (word, more)
    → access_with before text ≡ access_with (with_word before word) more
read_first before [] word more h = absurd (cc)
read_first before (a ∷ behind) word more h = access_with-first before a behind ∙ rw (h) refl

-- a text that begins with a letter
pub letter_first : (before : WrittenAccess) (a bit : ℕ) (behind : List ℕ) → first_word (a ∷ behind) ≡ None → told_bit a ≡ Some bit
    → access_with before (a ∷ behind) ≡ access_with (with_letter before bit) behind
letter_first before a bit behind h known = access_with-first before a behind ∙ rw (h, known) refl

-- the same, by the first of the text and what stands behind it
pub letter_behind : (before : WrittenAccess) (text : List ℕ) (bit : ℕ) → 1 ≤ length text → first_word text ≡ None → told_bit (get_or text 0 0) ≡ Some bit
    → access_with before text ≡ access_with (with_letter before bit) (take (length text - 1) (drop 1 text))
letter_behind before [] bit within h known = absurd (omega (within, arith))
letter_behind before (a ∷ behind) bit within h known =
    letter_first before a bit behind h known ∙ ap (access_with (with_letter before bit)) (sym (take_all (length (a ∷ behind) - 1) behind (omega (arith))))
