-- Texts as they are written, and read back.
use Rattle.std.proofs.Common.{◌≡◌, ℕ, ◌/◌, ◌<◌, ◌==◌, ◌++◌, ◌&&◌, not, true, false, List, [], ◌∷◌, refl, sym, ap, arith, inl, inr, ◌∙◌, None, Some}
use Rattle.std.specs.Prelude.{nat_le, slice_index}
use Rattle.std.specs.Option.{option_map}
use Rattle.std.specs.Result.{result_ok}
use Rattle.std.specs.List.{list_all}
use Rattle.std.proofs.lemmas.Bool.{and_parts, not-true, cases_Bool, eqb-true}
use Rattle.hex.specs.Hex.{IsBytes, encode_upper, encode_with, hex_digit_value, upper_digits}
use Rattle.hex.proofs.HexLemmas.{IsDigits-upper_digits, decode_of-encode_upper}
use Rattle.aa_bytes.specs.Bytes.{quote}
use Rattle.aa_bytes.specs.Texts.{begins_with_byte}
use Rattle.aa_bytes.specs.Quoting.{digits_of, hexadecimal, is_shown, written_text}
use Rattle.aatry_log_lines.specs.Values.{before_last_quote, hexadecimal_text, is_quote, text_of}

-- what is shown is no quote
shown-no_quote : (b : ℕ) → is_shown b ≡ true → is_quote b ≡ false
shown-no_quote b shown =
    let parts = and_parts (nat_le 33 b && nat_le b 126) (not (b == quote)) shown in
    not-true (b == quote) parts.1

-- the quote behind a text that is shown ends it
pub quoted-back : (text : List ℕ) → list_all is_shown text ≡ true → before_last_quote (text ++ quote ∷ []) ≡ Some text
quoted-back [] shown = refl
quoted-back (b ∷ bs) shown =
    let parts = and_parts (is_shown b) (list_all is_shown bs) shown in
    rw (shown-no_quote b parts.0) (ap (option_map (λ text. b ∷ text)) (quoted-back bs parts.1))

-- the digits of each byte in turn are those of all
all-digits : (bytes : List ℕ) → hexadecimal bytes ≡ encode_upper bytes
unfolding encode_with
all-digits [] = refl
all-digits (b ∷ bs) = ap (λ rest. digits_of b ++ rest) (all-digits bs)

-- some value is not none
Some-None : {n : ℕ} → Some n ≡ None → ⊥
Some-None h = cc

-- a digit is no quote
digit-no_quote : (n : ℕ) → n < 16 → (slice_index upper_digits n == quote) ≡ false
digit-no_quote n within =
    elim (cases_Bool (slice_index upper_digits n == quote)) [
      | inl same ↦
          let is_quote = eqb-true (slice_index upper_digits n) quote same in
          absurd (Some-None (sym (IsDigits-upper_digits n within) ∙ ap hex_digit_value is_quote))
      | inr other ↦ other
    ]

-- so a text in hexadecimal begins with no quote
digits-no_quote : (bytes : List ℕ) → IsBytes bytes → list_all is_shown bytes ≡ false → begins_with_byte quote (hexadecimal bytes) ≡ false
unfolding encode_with
digits-no_quote [] fit unshown = absurd (cc (unshown))
digits-no_quote (b ∷ bs) fit unshown = let first : b < 256 = fit 0 in digit-no_quote (b / 16) (omega arith)

-- a text in hexadecimal is read back
hexadecimal-back : (text : List ℕ) → IsBytes text → hexadecimal_text (hexadecimal text) ≡ Some text
hexadecimal-back text fit = ap hexadecimal_text (all-digits text) ∙ ap result_ok (decode_of-encode_upper text fit)

-- as it is written
pub written-back : (text : List ℕ) → IsBytes text → text_of (written_text text) ≡ Some text
written-back text fit = elim (cases_Bool (list_all is_shown text)) [
  | inl shown ↦ rw shown (quoted-back text shown)
  | inr unshown ↦ rw unshown (rw (digits-no_quote text fit unshown) (hexadecimal-back text fit))
]
