-- The symbols of a pattern's text: its bytes, each with the backslash before it, if there is one (apparmor.d(5), "Globbing").
use Rattle.std.specs.Prelude.{ℕ, Bool, true, false, ◌==◌, if◌then◌else◌, List, [], ◌∷◌}
use Rattle.aa_bytes.specs.Bytes.{backslash, is_letter_or_digit}
use Rattle.aa_glob_syntax.specs.declared.symbol.Symbol.{Symbol}
use Rattle.aa_glob_syntax.specs.declared.symbol.Symbol.TheVariants.{Plain, Escaped, Broken}

-- A backslash belongs to the byte after it. Before a letter or a digit, or at the end, it is broken.
abbrev pub symbols : List ℕ → List Symbol
symbols [] = []
symbols (b ∷ []) = (if b == backslash then Broken else Plain b) ∷ []
symbols (b ∷ c ∷ bs) = if b == backslash then (if is_letter_or_digit c then Broken ∷ [] else Escaped c ∷ symbols bs) else Plain b ∷ symbols (c ∷ bs)

-- a symbol is this byte, without a backslash
abbrev pub is_plain : ℕ → Symbol → Bool
is_plain b (Plain c) = c == b
is_plain b l = false

-- a symbol is a backslash before a letter, a digit or the end
abbrev pub is_broken : Symbol → Bool
is_broken Broken = true
is_broken l = false

-- the byte that a symbol stands for, if it isn't broken
abbrev pub byte_of : Symbol → ℕ
byte_of (Plain b) = b
byte_of (Escaped b) = b
byte_of Broken = 0
