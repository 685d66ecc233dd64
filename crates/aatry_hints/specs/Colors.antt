-- Lines in colours, for a terminal (docs/aatry.md, "Colours").
use Rattle.std.specs.Prelude.{◌≡◌, ℕ, ◌==◌, ◌&&◌, ◌||◌, Bool, true, false, not, if◌then◌else◌, List, [], ◌∷◌, ◌++◌, Option, None, Some, codes, drop, flat_map, length}
use Rattle.std.specs.List.{All, list_any}
use Rattle.std.specs.Str.{bytes_eq}
use Rattle.aa_bytes.specs.Bytes.{line_feed, space}
use Rattle.aa_bytes.specs.Texts.{begins_with, begins_with_byte}
use Rattle.aa_set_commands.specs.Lines.{is_line_feed}
use Rattle.aatry_hints.specs.declared.colors.Color.{Color}
use Rattle.aatry_hints.specs.declared.colors.Color.TheVariants.{Green, Red, Yellow}

-- the byte with which a terminal's escape sequence begins
abbrev pub escape : ℕ
escape = 27

-- the escape sequence that sets a colour, and the one that resets it (ECMA-48, "Select Graphic Rendition")
abbrev pub opening : Color → List ℕ
opening Red = escape ∷ codes "[31m"
opening Green = escape ∷ codes "[32m"
opening Yellow = escape ∷ codes "[33m"

abbrev pub closing : List ℕ
closing = escape ∷ codes "[0m"

-- a text without the blanks that it begins with
abbrev pub unindented : List ℕ → List ℕ
unindented [] = []
unindented (byte ∷ bytes) = if byte == space then unindented bytes else byte ∷ bytes

-- a text is a word, or begins with it and a blank
abbrev pub has_word : List ℕ → List ℕ → Bool
has_word word text = bytes_eq text word || (begins_with word text && begins_with_byte space (drop (length word) text))

-- the colour of a text: green for what is more and what is allowed, red for what is less and what isn't allowed, and yellow for what is let through
-- in complain mode and logged
abbrev pub color_of_text : List ℕ → Option Color
color_of_text text =
    if begins_with (codes "+ ") text || has_word (codes "allow") text then Some Green else
    if begins_with (codes "- ") text || has_word (codes "deny") text || has_word (codes "refuse") text then Some Red else
    if has_word (codes "complain") text then Some Yellow else None

-- the colour of a line, which may be indented
abbrev pub color_of : List ℕ → Option Color
color_of line = color_of_text (unindented line)

-- a line in its colour, if it has one
abbrev pub painted : Option Color → List ℕ → List ℕ
painted None line = line
painted (Some color) line = opening color ++ line ++ closing

abbrev pub colored_line : List ℕ → List ℕ
colored_line line = painted (color_of line) line ++ line_feed ∷ []

-- a line with its end
abbrev pub ended : List ℕ → List ℕ
ended line = line ++ line_feed ∷ []

-- A text is these whole lines, in their order, followed by the beginning of one, if there is any.
pub record IsCut (text : List ℕ) (whole : List (List ℕ)) (rest : List ℕ) : Type 0 where
  pub text_is : text ≡ flat_map ended whole ++ rest
  pub each : All (λ line. list_any is_line_feed line ≡ false) whole
  pub unended : list_any is_line_feed rest ≡ false

-- Of a text some whole lines are shown, each in its colour, and the rest is left.
abbrev pub IsBegun : (text shown rest : List ℕ) → Type 0
IsBegun text shown rest =
    (whole : List (List ℕ)) × (text ≡ flat_map ended whole ++ rest) × All (λ line. list_any is_line_feed line ≡ false) whole
    × (shown ≡ flat_map colored_line whole)

-- A text is shown by another: each of its whole lines in its colour, and the beginning of a line, if there is one, as it is.
pub record IsColored (text shown : List ℕ) : Type 0 where
  pub whole : List (List ℕ)
  pub rest : List ℕ
  pub cut : IsCut text whole rest
  pub shown_is : shown ≡ flat_map colored_line whole ++ rest

-- a text without escape sequences, by whether it begins within one: from an escape to the letter that ends it
abbrev pub letter_of_end : ℕ
letter_of_end = 109

abbrev pub uncolored_by : Bool → List ℕ → List ℕ
uncolored_by within [] = []
uncolored_by true (byte ∷ bytes) = uncolored_by (not (byte == letter_of_end)) bytes
uncolored_by false (byte ∷ bytes) = if byte == escape then uncolored_by true bytes else byte ∷ uncolored_by false bytes

abbrev pub uncolored : List ℕ → List ℕ
uncolored text = uncolored_by false text
