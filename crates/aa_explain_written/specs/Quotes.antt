-- Patterns of one path as they are written in the quotes of a profile's file.
use Rattle.std.specs.Prelude.{ℕ, Bool, false, not, ◌==◌, ◌&&◌, ◌||◌, if◌then◌else◌, nat_le, List, [], ◌∷◌, ◌++◌, length}
use Rattle.aa_bytes.specs.Bytes.{backslash, closing_bracket, line_feed, quote, slash}
use Rattle.aa_bytes.specs.Texts.{has_byte}
use Rattle.aa_glob_syntax.specs.Reading.{longest}

-- In quotes a byte needs a backslash, by the byte before it: a quote, which would end the text; a closing bracket, which AppArmor takes for that of
-- a class alone; and a slash after another, since slashes in a row would be one.
abbrev pub needs_escape : ℕ → ℕ → Bool
needs_escape before b = b == quote || b == closing_bracket || (b == slash && before == slash)

-- a byte of a pattern, after another byte, with the backslash that it needs; one that is escaped already has it
abbrev pub escaped_byte : Bool → ℕ → ℕ → List ℕ
escaped_byte taken before b = if not taken && needs_escape before b then backslash ∷ b ∷ [] else b ∷ []

-- the rest of a pattern, after a byte that may be a backslash which escapes the next one, as it is written in quotes
abbrev pub quoted_behind : Bool → ℕ → List ℕ → List ℕ
quoted_behind taken before [] = []
quoted_behind taken before (b ∷ bs) = escaped_byte taken before b ++ quoted_behind (not taken && b == backslash) b bs

-- a pattern of one path as it is written in quotes
abbrev pub between_quotes : List ℕ → List ℕ
between_quotes pattern = quoted_behind false 0 pattern

-- a text can be a pattern in quotes: it has no line feed, and it isn't too long
abbrev pub fits_quotes : List ℕ → Bool
fits_quotes text = not (has_byte line_feed text) && nat_le (length text) longest
