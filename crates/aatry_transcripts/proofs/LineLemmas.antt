-- The lines of a text, from its front.
use Rattle.std.proofs.Common.{◌≡◌, ◌∙◌, ℕ, Bool, true, false, cond, List, [], ◌∷◌, ◌++◌, ap, append_assoc, refl}
use Rattle.std.specs.List.{list_any, onto_first, slice_split}
use Rattle.std.specs.Prelude.{if◌then◌else◌}
use Rattle.std.proofs.lemmas.Bool.{or_parts, cond-false}
use Rattle.aa_bytes.specs.Bytes.{line_feed}
use Rattle.aa_bytes.specs.Texts.{is_empty}
use Rattle.aa_set_commands.specs.Lines.{is_line_feed, lines, without_empty_last}

-- what has no separator is its one piece
piece_whole : (p : ℕ → Bool) (text : List ℕ) → list_any p text ≡ false → slice_split p text ≡ text ∷ []
piece_whole p [] none = refl
piece_whole p (b ∷ bs) none =
    let parts = or_parts (p b) (list_any p bs) none in
    cond-false (p b) _ _ parts.0 ∙ ap (onto_first b) (piece_whole p bs parts.1)

-- what stands before the first line feed is the first piece
piece_front : (line after : List ℕ) → list_any is_line_feed line ≡ false → slice_split is_line_feed (line ++ line_feed ∷ after) ≡ line ∷ slice_split is_line_feed after
piece_front [] after none = refl
piece_front (b ∷ bs) after none =
    let parts = or_parts (is_line_feed b) (list_any is_line_feed bs) none in
    cond-false (is_line_feed b) _ _ parts.0 ∙ ap (onto_first b) (piece_front bs after parts.1)

-- there is a first piece
pub piece_first : (text : List ℕ) → (x : List ℕ) × (xs : List (List ℕ)) × (slice_split is_line_feed text ≡ x ∷ xs)
piece_first [] = ([], [], refl)
piece_first (b ∷ bs) =
    let rest = piece_first bs in
    elim (is_line_feed b) as (λ t. (x : List ℕ) × (xs : List (List ℕ)) × (cond t ([] ∷ slice_split is_line_feed bs) (onto_first b (slice_split is_line_feed bs)) ≡ x ∷ xs)) [
      | true ↦ ([], slice_split is_line_feed bs, refl)
      | false ↦ (b ∷ rest.0, rest.1, ap (onto_first b) rest.2)
    ]

keeps_front : (line : List ℕ) (pieces : List (List ℕ)) (x : List ℕ) (xs : List (List ℕ)) → pieces ≡ x ∷ xs → without_empty_last (line ∷ pieces) ≡ line ∷ without_empty_last pieces
keeps_front line pieces x xs is = rw is refl

-- the first line, and those behind its line feed
pub lines-front : (line after : List ℕ) → list_any is_line_feed line ≡ false → lines ((line ++ line_feed ∷ []) ++ after) ≡ line ∷ lines after
lines-front line after none =
    let first = piece_first after in
    ap lines (append_assoc line (line_feed ∷ []) after) ∙ ap without_empty_last (piece_front line after none)
    ∙ keeps_front line (slice_split is_line_feed after) first.0 first.1 first.2

-- the last line, if there is one
pub lines-last : (text : List ℕ) → list_any is_line_feed text ≡ false → lines text ≡ (if is_empty text then [] else text ∷ [])
lines-last text none = ap without_empty_last (piece_whole is_line_feed text none)
