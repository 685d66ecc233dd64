-- Matching of what stands for itself: a pattern's text is gone through together with a path, up to the first byte that may
-- mean something else.
use Rattle.std.specs.Prelude.{◌≡◌, ℕ, List, Ok}
use Rattle.aa_glob_pattern.specs.declared.literal.LiteralMatch.{LiteralMatch}
use Rattle.aa_glob_pattern.specs.declared.literal.LiteralMatch.TheVariants.{Found, Open}
use Rattle.aa_glob_syntax.specs.Elements.{elements}
use Rattle.aa_glob_syntax.specs.Items.{Pattern}
use Rattle.aa_glob_syntax.specs.Matching.{matches}
use Rattle.aa_glob_syntax.specs.Reading.{items_of, items_read, pieces, reading, whole}
use Rattle.aa_glob_syntax.specs.Symbols.{symbols}
use Rattle.aa_glob_syntax.specs.declared.context.Context.{Context}

-- the items of what is left of a text, outside groups
abbrev pub items_left : Context → List ℕ → Pattern
items_left context rest = items_read (whole (pieces 0 (elements context (symbols rest))))

-- What is left of a text reads as items, which what is left of the path matches exactly where the path matches the whole text's.
abbrev pub GoesOn : List ℕ → List ℕ → Context → List ℕ → List ℕ → Type 0
GoesOn text path context rest left =
    (whole (pieces 0 (elements context (symbols rest))) ≡ Ok (items_left context rest))
    × (matches (items_of text) path ≡ matches (items_left context rest) left)

-- that holds after some context
abbrev pub AreLeft : List ℕ → List ℕ → List ℕ → List ℕ → Type 0
AreLeft text path rest left = (context : Context) × GoesOn text path context rest left

-- A text reads as a pattern by itself, which a path matches exactly where another path matches another text's.
abbrev pub StandFor : List ℕ → List ℕ → List ℕ → List ℕ → Type 0
StandFor text path rest left = (reading rest ≡ Ok (items_of rest)) × (matches (items_of text) path ≡ matches (items_of rest) left)

-- what is found of a text and a path
abbrev pub IsFound : List ℕ → List ℕ → LiteralMatch → Type 0
IsFound text path (Found found) = found ≡ matches (items_of text) path
IsFound text path (Open rest) = StandFor text path rest.text.now rest.path.now
