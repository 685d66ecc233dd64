-- The texts of values. The kernel writes a text in quotes, or in hexadecimal digits without quotes where it has a byte that is no visible ASCII
-- character, or a quote.
use Rattle.std.specs.Prelude.{ℕ, Bool, ◌==◌, if◌then◌else◌, List, [], ◌∷◌, Option, None, Some}
use Rattle.std.specs.Option.{option_map}
use Rattle.std.specs.Result.{result_ok}
use Rattle.hex.specs.Hex.{decode_of}
use Rattle.aa_bytes.specs.Bytes.{quote}
use Rattle.aa_bytes.specs.Texts.{begins_with_byte, is_empty}
use Rattle.aatry_log_lines.specs.declared.values.LoggedText.{LoggedText}
use Rattle.aatry_log_lines.specs.declared.values.LoggedText.TheVariants.{Decoded, Written}

abbrev pub is_quote : ℕ → Bool
is_quote b = b == quote

-- what is before the first quote, if that is at the end
abbrev pub before_last_quote : List ℕ → Option (List ℕ)
before_last_quote [] = None
before_last_quote (b ∷ bs) = if is_quote b then (if is_empty bs then Some [] else None) else option_map (λ text. b ∷ text) (before_last_quote bs)

-- the text of a value that is written in quotes
abbrev pub quoted_text : List ℕ → Option (List ℕ)
quoted_text [] = None
quoted_text (b ∷ bs) = if is_quote b then before_last_quote bs else None

-- the text of a value that is written in hexadecimal digits, two for each byte
abbrev pub hexadecimal_text : List ℕ → Option (List ℕ)
hexadecimal_text value = result_ok (decode_of value)

-- the text of a value, if it has one
abbrev pub text_of : List ℕ → Option (List ℕ)
text_of value = if begins_with_byte quote value then quoted_text value else hexadecimal_text value

-- a text of the code
abbrev pub seen_text : LoggedText → List ℕ
seen_text (Written text) = text.now
seen_text (Decoded bytes) = bytes.items
