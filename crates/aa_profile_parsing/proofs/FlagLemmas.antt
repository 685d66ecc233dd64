-- Lists of flags, word by word.
use Rattle.std.proofs.Common.{◌≡◌, ℕ, suc, ◌+◌, ◌-◌, ◌<◌, ◌≤◌, length, arith, Bool, true, false, List, [], ◌∷◌, take, drop, refl, ap, sym, ◌∙◌}
use Rattle.std.proofs.lemmas.List.{take_rest}
use Rattle.std.specs.Prelude.{not}
use Rattle.std.specs.List.{onto_first, prefix_len, slice_split}

-- the words behind the first one, from what stands behind it: its separator, and the rest
abbrev pub words_behind : (ℕ → Bool) → List ℕ → List (List ℕ)
words_behind p [] = []
words_behind p (b ∷ bs) = slice_split p bs

-- the first word, and those behind it
pub first_word : (p : ℕ → Bool) (text : List ℕ)
    → slice_split p text ≡ take (prefix_len (λ b. not (p b)) text) text ∷ words_behind p (drop (prefix_len (λ b. not (p b)) text) text)
first_word p [] = refl
first_word p (b ∷ bs) = by (p b) refl (first_word p bs)
  where
    by : (passes : Bool) → p b ≡ passes
        → slice_split p bs ≡ take (prefix_len (λ b. not (p b)) bs) bs ∷ words_behind p (drop (prefix_len (λ b. not (p b)) bs) bs)
        → slice_split p (b ∷ bs) ≡ take (prefix_len (λ b. not (p b)) (b ∷ bs)) (b ∷ bs) ∷ words_behind p (drop (prefix_len (λ b. not (p b)) (b ∷ bs)) (b ∷ bs))
    by true h rest = rw h refl
    by false h rest =
        let size = prefix_len (λ b. not (p b)) bs in
        let one_more : suc size ≡ 1 + size = omega arith in
        rw h (ap (onto_first b) rest ∙ ap (λ n. take n (b ∷ bs) ∷ words_behind p (drop n (b ∷ bs))) one_more)

-- no word stands behind the first one where no separator does
pub words_behind-none : (p : ℕ → Bool) (rest : List ℕ) → length rest < 1 → words_behind p rest ≡ []
words_behind-none p [] none = refl
words_behind-none p (b ∷ bs) none = absurd (omega arith)

-- the words behind a separator
pub words_behind-some : (p : ℕ → Bool) (rest : List ℕ) → 1 ≤ length rest → words_behind p rest ≡ slice_split p (take (length rest - 1) (drop 1 rest))
words_behind-some p [] some = absurd (omega arith)
words_behind-some p (b ∷ bs) some = ap (slice_split p) (sym (take_rest (b ∷ bs) 1))
