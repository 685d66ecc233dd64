-- How a name is written in the text of a question: in quotes, with `\x` and two hexadecimal digits for each byte that isn't written as it is. So it
-- is one word, which a file of questions may have (docs/aatry.md, "`aatry diff`").
use Rattle.std.specs.Prelude.{ℕ, Bool, ◌==◌, ◌&&◌, not, if◌then◌else◌, List, [], ◌∷◌, ◌++◌, Option, None, Some, Result, Ok, Err, flat_map, slice_index}
use Rattle.hex.specs.Hex.{decode_of}
use Rattle.hex.specs.declared.error.FromHexError.{FromHexError}
use Rattle.aa_bytes.specs.Quoting.{digits_of, is_shown, quoted}

abbrev pub backslash : ℕ
backslash = 92

abbrev pub is_backslash : ℕ → Bool
is_backslash byte = byte == backslash

-- the letter x, after a backslash
abbrev pub letter_of_escape : ℕ
letter_of_escape = 120

-- a byte is written as it is: it is a visible ASCII character, and neither a quote nor a backslash
abbrev pub is_plain : ℕ → Bool
is_plain byte = is_shown byte && not (is_backslash byte)

-- how a byte is written
abbrev pub escaped_byte : ℕ → List ℕ
escaped_byte byte = if is_plain byte then byte ∷ [] else backslash ∷ letter_of_escape ∷ digits_of byte

-- the bytes of a name as they are written
abbrev pub escaped : List ℕ → List ℕ
escaped name = flat_map escaped_byte name

-- a name as it is written in a question
abbrev pub name_text : List ℕ → List ℕ
name_text name = quoted (escaped name)

-- the first byte of what was decoded, if it was
abbrev pub first_decoded : Result (List ℕ) FromHexError → Option ℕ
first_decoded (Ok bytes) = Some (slice_index bytes 0)
first_decoded (Err error) = None

-- the byte of two hexadecimal digits, if they are digits
abbrev pub byte_of : ℕ → ℕ → Option ℕ
byte_of high low = first_decoded (decode_of (high ∷ low ∷ []))

-- the byte that four bytes stand for, if they do
abbrev pub byte_written : ℕ → ℕ → ℕ → ℕ → Option ℕ
byte_written first second high low = if is_backslash first then (if second == letter_of_escape then byte_of high low else None) else None

-- the bytes at a place: the byte that is written there, or else the first as it is
abbrev pub written_or : Option ℕ → (plain behind : List ℕ) → List ℕ
written_or None plain behind = plain
written_or (Some byte) plain behind = byte ∷ behind

-- The bytes that a word stands for: those after `\x` by their digits, and all others as they are.
abbrev pub unescaped : List ℕ → List ℕ
unescaped [] = []
unescaped (a ∷ []) = a ∷ []
unescaped (a ∷ b ∷ []) = a ∷ b ∷ []
unescaped (a ∷ b ∷ c ∷ []) = a ∷ b ∷ c ∷ []
unescaped (a ∷ b ∷ c ∷ d ∷ rest) = written_or (byte_written a b c d) (a ∷ unescaped (b ∷ c ∷ d ∷ rest)) (unescaped rest)
