-- Lines that are written, each ended by a line feed, and read back.
use Rattle.std.proofs.Common.{◌≡◌, ◌∙◌, ℕ, Bool, true, false, not, ◌||◌, List, [], ◌∷◌, ap, inl, inr, refl, sym}
use Rattle.std.specs.List.{list_all, list_any, onto_first, slice_split}
use Rattle.std.proofs.lemmas.Bool.{and_from, and_parts, cases_Bool, cond-false, cond-true, not-true, not_from_false, or_from}
use Rattle.aa_set_commands.specs.Lines.{is_line_feed, lines, without_empty_last}
use Rattle.aatry_transcripts.specs.Accepting.{ended}
use Rattle.aatry_transcripts.proofs.LineLemmas.{lines-front, piece_first}

-- a line holds no line feed
abbrev pub is_whole : List ℕ → Bool
is_whole line = not (list_any is_line_feed line)

-- such lines are read back
pub lines-ended : (written : List (List ℕ)) → list_all is_whole written ≡ true → lines (ended written) ≡ written
lines-ended [] whole = refl
lines-ended (line ∷ written) whole =
    let both = and_parts (is_whole line) (list_all is_whole written) whole in
    lines-front line (ended written) (not-true (list_any is_line_feed line) both.0) ∙ ap (λ ls. line ∷ ls) (lines-ended written both.1)

-- a byte more of the first piece
onto_whole : (b : ℕ) (x : List ℕ) (xs pieces : List (List ℕ)) → is_line_feed b ≡ false → pieces ≡ x ∷ xs → list_all is_whole pieces ≡ true
    → list_all is_whole (onto_first b pieces) ≡ true
onto_whole b x xs pieces other is whole =
    let parts : list_all is_whole (x ∷ xs) ≡ true = ap (list_all is_whole) (sym is) ∙ whole in
    let both = and_parts (is_whole x) (list_all is_whole xs) parts in
    let first : is_whole (b ∷ x) ≡ true = not_from_false (is_line_feed b || list_any is_line_feed x)
    (or_from (is_line_feed b) (list_any is_line_feed x) other (not-true (list_any is_line_feed x) both.0)) in
    ap (λ ps. list_all is_whole (onto_first b ps)) is ∙ and_from (is_whole (b ∷ x)) (list_all is_whole xs) first both.1

pieces_whole : (text : List ℕ) → list_all is_whole (slice_split is_line_feed text) ≡ true
pieces_whole [] = refl
pieces_whole (b ∷ bs) = elim (cases_Bool (is_line_feed b)) [
  | inl feed ↦ ap (list_all is_whole) (cond-true (is_line_feed b) ([] ∷ slice_split is_line_feed bs) (onto_first b (slice_split is_line_feed bs)) feed) ∙ pieces_whole bs
  | inr other ↦
      let first = piece_first bs in
      ap (list_all is_whole) (cond-false (is_line_feed b) ([] ∷ slice_split is_line_feed bs) (onto_first b (slice_split is_line_feed bs)) other)
      ∙ onto_whole b first.0 first.1 (slice_split is_line_feed bs) other first.2 (pieces_whole bs)
]

last_whole : (pieces : List (List ℕ)) → list_all is_whole pieces ≡ true → list_all is_whole (without_empty_last pieces) ≡ true
last_whole [] whole = refl
last_whole ([] ∷ []) whole = refl
last_whole ((b ∷ bs) ∷ []) whole = whole
last_whole (piece ∷ next ∷ pieces) whole =
    let both = and_parts (is_whole piece) (list_all is_whole (next ∷ pieces)) whole in
    and_from (is_whole piece) (list_all is_whole (without_empty_last (next ∷ pieces))) both.0 (last_whole (next ∷ pieces) both.1)

-- a text's lines hold none
pub lines-whole : (text : List ℕ) → list_all is_whole (lines text) ≡ true
lines-whole text = last_whole (slice_split is_line_feed text) (pieces_whole text)
