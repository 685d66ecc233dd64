-- The hexadecimal digits of a byte.
use Rattle.std.proofs.Common.{List, refl, true, false, [], ◌+◌, ◌*◌, length, length-append, ◌≡◌, ◌<◌, arith, map, ℕ, ◌/◌, ◌%◌, [], ◌∷◌, sym, ap, ◌∙◌}
use Rattle.std.specs.Prelude.{slice_index}
use Rattle.std.specs.Char.{to_ascii_uppercase}
use Rattle.std.proofs.lemmas.List.{get_or-map}
use Rattle.hex.specs.Hex.{encode_lower, encode_with, lower_digits, upper_digits}
use Rattle.std.specs.List.{list_all}
use Rattle.aa_bytes.specs.Bytes.{quote}
use Rattle.aa_bytes.specs.Quoting.{digits_of, hexadecimal, is_shown, written_text}

-- a digit in lower case is one in upper case
upper-digit : (n : ℕ) → n < 16 → to_ascii_uppercase (slice_index lower_digits n) ≡ slice_index upper_digits n
upper-digit n h = sym (get_or-map to_ascii_uppercase lower_digits n 0 0 h)

-- the digits of a byte
pub digits-upper : (b : ℕ) → b < 256 → map to_ascii_uppercase (encode_lower (b ∷ [])) ≡ digits_of b
unfolding encode_with
digits-upper b h =
    ap (λ digit. digit ∷ to_ascii_uppercase (slice_index lower_digits (b % 16)) ∷ []) (upper-digit (b / 16) (omega arith))
    ∙ ap (λ digit. slice_index upper_digits (b / 16) ∷ digit ∷ []) (upper-digit (b % 16) (omega arith))

-- each byte has two
two-digits : (b : ℕ) → length (digits_of b) ≡ 2
unfolding encode_with
two-digits b = refl

length-hexadecimal : (bytes : List ℕ) → length (hexadecimal bytes) ≡ length bytes * 2
length-hexadecimal [] = refl
length-hexadecimal (b ∷ bytes) =
    let more = length-hexadecimal bytes in
    let two = two-digits b in
    let both = length-append (digits_of b) (hexadecimal bytes) in
    omega arith

-- how long a text is as it is written
pub length-shown : (text : List ℕ) → list_all is_shown text ≡ true → length (written_text text) ≡ length text + 2
length-shown text shown = let all = length-append text (quote ∷ []) in rw shown (omega arith)

pub length-unshown : (text : List ℕ) → list_all is_shown text ≡ false → length (written_text text) ≡ length text * 2
length-unshown text unshown = rw unshown (length-hexadecimal text)
