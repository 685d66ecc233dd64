-- The words of a line, one by one.
use Rattle.std.proofs.Common.{◌≡◌, ℕ, ◌+◌, ◌-◌, ◌<◌, ◌≤◌, arith, List, [], ◌∷◌, length, take, drop, ap, sym, ◌∙◌}
use Rattle.std.proofs.lemmas.List.{take_rest}
use Rattle.std.proofs.lemmas.List.Splits.{slice_split_first, slice_split_none}
use Rattle.std.proofs.lemmas.List.Sums.{fails_before_first}
use Rattle.std.specs.List.{position_or_len}
use Rattle.aatry_log_lines.specs.Pairs.{is_gap, words}

-- the first word, and those behind the byte that ends it
pub words-ended : (text : List ℕ) (size : ℕ) → size ≡ position_or_len is_gap text → size < length text
    → words text ≡ take size text ∷ words (take (length text - (size + 1)) (drop (size + 1) text))
words-ended text size is within =
    slice_split_first is_gap text 0 (omega (arith, is, within))
    ∙ ap (λ n. take n text ∷ words (drop (n + 1) text)) (sym is)
    ∙ ap (λ rest. take size text ∷ words rest) (sym (take_rest text (size + 1)))

-- the last word
pub words-last : (text : List ℕ) (size : ℕ) → size ≡ position_or_len is_gap text → length text ≤ size → words text ≡ text ∷ []
words-last text size is beyond = slice_split_none is_gap text (λ k d within. fails_before_first is_gap text k d (omega (arith, is, beyond, within)))
