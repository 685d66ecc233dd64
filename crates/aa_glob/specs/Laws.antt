-- What the laws speak of: texts that spell themselves, the one text that an exact pattern matches, and faults that are met
-- before a text's end.
use Rattle.std.specs.Prelude.{◌≡◌, ℕ, Bool, true, false, ◌==◌, ◌||◌, not, if◌then◌else◌, List, [], ◌∷◌, ◌++◌, Err}
use Rattle.aa_bytes.specs.Bytes.{backslash, closing_brace, opening_brace, opening_bracket, question_mark, star}
use Rattle.aa_glob_syntax.specs.Items.{Byte, Pattern, End, Next}
use Rattle.aa_glob_syntax.specs.Reading.{HasNoFirstFault, reading}
use Rattle.aa_glob_syntax.specs.declared.pattern_error.PatternError.{PatternError}
use Rattle.aa_glob_syntax.specs.declared.pattern_error.PatternError.TheVariants.{EmptyClass, BadRange, StrayClose, FewAlternatives, BadEscape, TooDeep}

-- a byte that outside groups and classes stands for itself only after a backslash: `\`, `*`, `?`, `[`, `{` and `}`
abbrev pub needs_backslash : ℕ → Bool
needs_backslash b = b == backslash || b == star || b == question_mark || b == opening_bracket || b == opening_brace || b == closing_brace

-- a text with a backslash before each byte that needs one
abbrev pub quoted : List ℕ → List ℕ
quoted [] = []
quoted (b ∷ bs) = (if needs_backslash b then backslash ∷ b ∷ [] else b ∷ []) ++ quoted bs

-- the pattern that is these bytes
abbrev pub bytes_pattern : List ℕ → Pattern
bytes_pattern [] = End
bytes_pattern (b ∷ bs) = Next (Byte b) (bytes_pattern bs)

-- the bytes of a pattern's items that are bytes, where all of them are
abbrev pub bytes_of : Pattern → List ℕ
bytes_of End = []
bytes_of (Next (Byte b) items) = b ∷ bytes_of items
bytes_of (Next item items) = bytes_of items

-- a text ends with a backslash
abbrev pub ends_with_backslash : List ℕ → Bool
ends_with_backslash [] = false
ends_with_backslash (b ∷ []) = b == backslash
ends_with_backslash (b ∷ c ∷ bs) = ends_with_backslash (c ∷ bs)

-- A fault that is met before a text's end, and so is reported whatever follows. A class or group that isn't closed is met at the end, and so is a
-- backslash there; a text's length, a zero byte and its first byte are looked at before any of these.
abbrev pub is_met_before_end : List ℕ → PatternError → Bool
is_met_before_end text EmptyClass = true
is_met_before_end text BadRange = true
is_met_before_end text StrayClose = true
is_met_before_end text FewAlternatives = true
is_met_before_end text TooDeep = true
is_met_before_end text BadEscape = not (ends_with_backslash text)
is_met_before_end text _ = false

-- a text is refused by a fault that is met before its end
abbrev pub IsRefusedBeforeEnd : List ℕ → PatternError → Type 0
IsRefusedBeforeEnd text error = (reading text ≡ Err error) × (is_met_before_end text error ≡ true)

-- whatever follows a text, it is refused by this fault, unless it then has one of those that are checked first
abbrev pub IsRefusedHoweverItEnds : List ℕ → PatternError → Type 0
IsRefusedHoweverItEnds text error = (more : List ℕ) → HasNoFirstFault (text ++ more) → reading (text ++ more) ≡ Err error
