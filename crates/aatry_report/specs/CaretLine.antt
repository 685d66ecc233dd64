-- The line below another that points at a place in it.
use Rattle.std.specs.Prelude.{ℕ, ◌==◌, if◌then◌else◌, List, [], ◌∷◌, ◌++◌, map, take}
use Rattle.aa_bytes.specs.Bytes.{caret, space, tab}
use Rattle.aatry_report.specs.Characters.{first_bytes}
use Rattle.aatry_report.specs.Lines.{last_line}

-- the byte below a character with which the next one is below what follows it: a tab below a tab, and a space below each other
abbrev pub blank_below : ℕ → ℕ
blank_below b = if b == tab then tab else space

-- the bytes below the characters of a text
abbrev pub blanks_below : List ℕ → List ℕ
blanks_below text = map blank_below (first_bytes text)

-- the line below the line of a place: a blank for each character before the place, and a caret
abbrev pub caret_line : List ℕ → ℕ → List ℕ
caret_line text at = blanks_below (last_line (take at text)) ++ caret ∷ []
