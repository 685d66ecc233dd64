-- How names and paths are printed, in replies and in audit lines (docs/commands.md, "Replies").
use Rattle.std.specs.Prelude.{ℕ, Bool, not, ◌&&◌, ◌==◌, nat_le, if◌then◌else◌, List, [], ◌∷◌, ◌++◌, flat_map}
use Rattle.std.specs.List.{list_all}
use Rattle.hex.specs.Hex.{encode_upper}
use Rattle.aa_bytes.specs.Bytes.{quote}

-- a byte that is printed as it is: a visible ASCII character, but no quote
abbrev pub is_shown : ℕ → Bool
is_shown b = nat_le 33 b && nat_le b 126 && not (b == quote)

-- the two hexadecimal digits of a byte, in upper case
abbrev pub digits_of : ℕ → List ℕ
digits_of byte = encode_upper (byte ∷ [])

-- the digits of each byte in turn
abbrev pub hexadecimal : List ℕ → List ℕ
hexadecimal bytes = flat_map digits_of bytes

-- a text in quotes
abbrev pub quoted : List ℕ → List ℕ
quoted text = quote ∷ text ++ quote ∷ []

-- a text as it is printed: in quotes, or in hexadecimal where one of its bytes isn't shown
abbrev pub written_text : List ℕ → List ℕ
written_text text = if list_all is_shown text then quoted text else hexadecimal text
