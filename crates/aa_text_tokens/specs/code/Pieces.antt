-- The pieces of a text, and the bytes in it that belong together.
use Rattle.std.specs.Prelude.{ℕ, ◌≤◌, ◌≢◌, ◌==◌, ◌&&◌, ◌||◌, Bool, false, not, if◌then◌else◌, List, [], ◌∷◌}
use Rattle.aa_bytes.specs.Bytes.{backslash, closing_brace, comma, is_blank, line_feed, opening_brace}
use Rattle.aa_text_tokens.specs.Cut.{Piece as SeenPiece, Token as SeenToken, Comment as SeenComment, Fault as SeenFault, ends_word}
use Rattle.aa_text_tokens.specs.declared.piece.Piece.{Piece}
use Rattle.aa_text_tokens.specs.declared.piece.Piece.TheVariants.{Token, Comment, Fault}
use Rattle.aa_text_tokens.specs.declared.cut.CutRefusal.TheVariants.{Memory}

-- a piece of the code
abbrev pub seen_piece : Piece → SeenPiece
seen_piece (Token kind text size) = SeenToken kind text.now size
seen_piece (Comment size) = SeenComment size
seen_piece (Fault refusal) = SeenFault refusal

-- a piece that has at least one byte, and no more than this many; a fault is one of the text
abbrev pub IsWithin : ℕ → Piece → Type 0
IsWithin most (Token kind text size) = (1 ≤ size) × (size ≤ most)
IsWithin most (Comment size) = (1 ≤ size) × (size ≤ most)
IsWithin most (Fault refusal) = refusal ≢ Memory

-- how many bytes at the front of a text belong together: a backslash and the byte after it, unless that is a line feed
abbrev pub taken : List ℕ → ℕ
taken [] = 1
taken (b ∷ []) = 1
taken (b ∷ c ∷ bs) = if b == backslash && not (c == line_feed) then 2 else 1

-- a byte that can begin a piece
abbrev pub starts_piece : ℕ → Bool
starts_piece b = not (is_blank b)

-- a byte that can begin a word
abbrev pub starts_word : ℕ → Bool
starts_word b = not (is_blank b) && not (b == comma) && not (b == opening_brace) && not (b == closing_brace)

-- a word continues in a text, within so many braces and after this byte
abbrev pub goes_on : ℕ → ℕ → List ℕ → Bool
goes_on depth before [] = false
goes_on depth before (b ∷ bs) = not (is_blank b) && (not (depth == 0) || not (ends_word before b bs))
