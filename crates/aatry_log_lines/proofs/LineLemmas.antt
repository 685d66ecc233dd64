-- The lines of a text, from the first on.
use Rattle.std.proofs.Common.{◌≡◌, ℕ, Bool, ◌==◌, ◌≤◌, false, List, [], ◌∷◌, ◌++◌, length, refl, ap, ◌∙◌, arith}
use Rattle.std.specs.List.{All, list_any, slice_split}
use Rattle.std.proofs.lemmas.Bool.{or_parts}
use Rattle.std.proofs.lemmas.List.{append_assoc}
use Rattle.std.proofs.lemmas.List.Elements.{All-cons, All-nil}
use Rattle.std.proofs.lemmas.List.Splits.{length-slice_split, slice_split_at, slice_split_none}
use Rattle.aa_bytes.specs.Bytes.{line_feed}
use Rattle.aa_set_commands.specs.Lines.{is_line_feed, lines, without_empty_last}

-- texts of which one stands first, where others follow
first-of : (text : List ℕ) (texts : List (List ℕ)) → 1 ≤ length texts → without_empty_last (text ∷ texts) ≡ text ∷ without_empty_last texts
first-of text [] some = absurd (omega (arith, some))
first-of text (next ∷ texts) some = refl

-- where no byte passes a test, each fails it
pub none-pass : (test : ℕ → Bool) (bytes : List ℕ) → list_any test bytes ≡ false → All (λ b. test b ≡ false) bytes
none-pass test [] none = All-nil (λ b. test b ≡ false)
none-pass test (b ∷ bs) none =
    let parts = or_parts (test b) (list_any test bs) none in
    All-cons (λ b. test b ≡ false) b bs parts.0 (none-pass test bs parts.1)

-- a line that ends
pub lines-ended : (line behind : List ℕ) → list_any is_line_feed line ≡ false → lines ((line ++ line_feed ∷ []) ++ behind) ≡ line ∷ lines behind
lines-ended line behind none =
    let count = length-slice_split is_line_feed behind in
    ap lines (append_assoc line (line_feed ∷ []) behind)
    ∙ ap without_empty_last (slice_split_at is_line_feed line line_feed behind (none-pass is_line_feed line none) refl)
    ∙ first-of line (slice_split is_line_feed behind) (omega (arith, count))

-- the last line, where no line feed ends it
pub lines-last : (text : List ℕ) → list_any is_line_feed text ≡ false → (length text == 0) ≡ false → lines text ≡ text ∷ []
lines-last [] none some = absurd (cc (some))
lines-last (b ∷ bs) none some = ap without_empty_last (slice_split_none is_line_feed (b ∷ bs) (none-pass is_line_feed (b ∷ bs) none))

-- nothing is left
pub lines-none : (text : List ℕ) → length text ≡ 0 → lines text ≡ []
lines-none [] none = refl
lines-none (b ∷ bs) none = absurd (omega (arith, none))
