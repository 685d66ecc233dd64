-- Lines in colours, read without them.
use Rattle.std.proofs.Common.{◌≡◌, ◌∙◌, ℕ, ◌==◌, Bool, true, false, List, [], ◌∷◌, ◌++◌, Option, None, Some, append-nil, append_assoc, ap, flat_map, refl, sym}
use Rattle.std.specs.List.{All, list_any}
use Rattle.std.proofs.lemmas.Bool.{cond-false, or_parts}
use Rattle.std.proofs.lemmas.Grind.{flat_map-append}
use Rattle.std.proofs.lemmas.List.Elements.{All-append, All-cons, All-head, All-nil, All-tail}
use Rattle.aa_set_commands.specs.Lines.{is_line_feed}
use Rattle.aa_bytes.specs.Bytes.{line_feed}
use Rattle.aatry_hints.specs.Colors.{IsBegun, IsColored, closing, color_of, colored_line, ended, escape, opening, painted, uncolored, uncolored_by}
use Rattle.aatry_hints.specs.declared.colors.Color.{Color}
use Rattle.aatry_hints.specs.declared.colors.Color.TheVariants.{Green, Red, Yellow}

abbrev is_escape : ℕ → Bool
is_escape byte = byte == escape

-- a text without an escape stays
stays : (text rest : List ℕ) → list_any is_escape text ≡ false → uncolored (text ++ rest) ≡ text ++ uncolored rest
stays [] rest none = refl
stays (byte ∷ bytes) rest none =
    cond-false (is_escape byte) (uncolored_by true (bytes ++ rest)) (byte ∷ uncolored (bytes ++ rest)) (or_parts (is_escape byte) (list_any is_escape bytes) none).0
    ∙ ap (λ more. byte ∷ more) (stays bytes rest (or_parts (is_escape byte) (list_any is_escape bytes) none).1)

-- what a terminal obeys goes
opening-goes : (color : Color) (rest : List ℕ) → uncolored (opening color ++ rest) ≡ uncolored rest
opening-goes Red rest = refl
opening-goes Green rest = refl
opening-goes Yellow rest = refl

closing-goes : (rest : List ℕ) → uncolored (closing ++ rest) ≡ uncolored rest
closing-goes rest = refl

painted-read : (color : Option Color) (line rest : List ℕ) → list_any is_escape line ≡ false → uncolored (painted color line ++ rest) ≡ line ++ uncolored rest
painted-read None line rest none = stays line rest none
painted-read (Some color) line rest none =
    ap uncolored (append_assoc (opening color ++ line) closing rest ∙ append_assoc (opening color) line (closing ++ rest))
    ∙ opening-goes color (line ++ (closing ++ rest))
    ∙ stays line (closing ++ rest) none
    ∙ ap (λ more. line ++ more) (closing-goes rest)

pub colors-tell : (told : List (List ℕ)) → All (λ line. list_any (λ byte. byte == escape) line ≡ false) told
    → uncolored (flat_map colored_line told) ≡ flat_map ended told
colors-tell [] none = refl
colors-tell (line ∷ told) none =
    let rest = flat_map colored_line told in
    ap uncolored (append_assoc (painted (color_of line) line) (line_feed ∷ []) rest)
    ∙ painted-read (color_of line) line (line_feed ∷ rest) (All-head (λ line. list_any (λ byte. byte == escape) line ≡ false) line told none)
    ∙ ap (λ more. line ++ line_feed ∷ more) (colors-tell told (All-tail (λ line. list_any (λ byte. byte == escape) line ≡ false) line told none))
    ∙ sym (append_assoc line (line_feed ∷ []) (flat_map ended told))

-- one line more
pub begun-next : (text shown rest line behind : List ℕ) → IsBegun text shown rest → rest ≡ ended line ++ behind → list_any is_line_feed line ≡ false
    → IsBegun text (shown ++ colored_line line) behind
begun-next text shown rest line behind (whole, text_is, each, shown_is) is unended = (
  whole ++ line ∷ [],
  text_is ∙ ap (λ left. flat_map ended whole ++ left) is ∙ sym (append_assoc (flat_map ended whole) (ended line) behind)
      ∙ ap (λ front. front ++ behind) (sym (one-more ended)),
  All-append IsUnended whole (line ∷ []) each (All-cons IsUnended line [] unended (All-nil IsUnended)),
  ap (λ front. front ++ colored_line line) shown_is ∙ sym (one-more colored_line),
)
  where
    IsUnended : List ℕ → Type 0
    IsUnended line = list_any is_line_feed line ≡ false

    one-more : (f : List ℕ → List ℕ) → flat_map f (whole ++ line ∷ []) ≡ flat_map f whole ++ f line
    one-more f = flat_map-append f whole (line ∷ []) ∙ ap (λ last. flat_map f whole ++ last) (append-nil (f line))

pub begun-ends : (text shown rest : List ℕ) → IsBegun text shown rest → list_any is_line_feed rest ≡ false → IsColored text (shown ++ rest)
begun-ends text shown rest (whole, text_is, each, shown_is) unended = record {
  whole = whole;
  rest = rest;
  cut = record { text_is = text_is; each = each; unended = unended };
  shown_is = ap (λ front. front ++ rest) shown_is;
}
