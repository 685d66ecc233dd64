-- Fronts of lines, as a line buffer holds them, and the first line of a text.
use Rattle.std.proofs.Common.{◌≡◌, ℕ, zero, suc, ◌+◌, ◌-◌, ◌<◌, ◌≤◌, Bool, true, false, List, [], ◌∷◌, ◌++◌, length, take, min, get_or, sym, ap, ◌∙◌, refl, arith}
use Rattle.std.proofs.Math.Seq.{take-append-add}
use Rattle.std.specs.Prelude.{not}
use Rattle.std.specs.List.{list_any, prefix_len}
use Rattle.std.proofs.lemmas.Bool.{false_from_ne_true, or_from, or_left, or_right}
use Rattle.std.proofs.lemmas.List.{take_min}
use Rattle.std.proofs.lemmas.List.Sums.{prefix_len_is}
use Rattle.memchr.specs.Find.{NoneBefore, Nowhere, Passes}

-- a front that reaches past the first of two texts
pub take_past : (n : ℕ) (xs ys : List ℕ) → length xs ≤ n → take n (xs ++ ys) ≡ xs ++ take (n - length xs) ys
take_past n xs ys h =
    let whole : n ≡ length xs + (n - length xs) = omega arith in
    ap (λ k. take k (xs ++ ys)) whole ∙ take-append-add xs ys (n - length xs)

-- a front of a text, and as much of another as is left of n
pub kept_front : (n k : ℕ) (xs ys : List ℕ) → length xs ≤ n → k ≡ min (n - length xs) (length ys) → xs ++ take k ys ≡ take n (xs ++ ys)
kept_front n k xs ys h e = ap (λ j. xs ++ take j ys) e ∙ ap (λ zs. xs ++ zs) (take_min (n - length xs) ys) ∙ sym (take_past n xs ys h)

-- no byte of a front passes where none does at its place
pub none_before : (p : ℕ → Bool) (text : List ℕ) (n : ℕ) → n ≤ length text → ((k : ℕ) → k < n → p (get_or text k 0) ≡ true → ⊥) → list_any p (take n text) ≡ false
none_before p text zero within h = refl
none_before p [] (suc n) within h = refl
none_before p (b ∷ bs) (suc n) within h =
    or_from (p b) (list_any p (take n bs)) (false_from_ne_true (p b) (h 0 (omega arith))) (none_before p bs n (omega arith) (λ k below. h (suc k) (omega arith)))

-- some byte passes where one does at a place
pub some_at : (p : ℕ → Bool) (text : List ℕ) (k : ℕ) → k < length text → p (get_or text k 0) ≡ true → list_any p text ≡ true
some_at p [] k within h = absurd (omega (arith, within))
some_at p (b ∷ bs) zero within h = or_left (p b) (list_any p bs) h
some_at p (b ∷ bs) (suc k) within h = or_right (p b) (list_any p bs) (some_at p bs k (omega (arith, within)) h)

-- the first place whose byte passes is the length of what comes before it
pub length-before : (p : ℕ → Bool) (text : List ℕ) (k : ℕ) → NoneBefore (Passes p text) 0 (length text) k × Passes p text k → k ≡ prefix_len (λ b. not (p b)) text
length-before p text k first =
    sym (prefix_len_is (λ b. not (p b)) text k 0 (omega (arith, first.0.high)) (λ i below. ap not (false_from_ne_true (p (get_or text i 0)) (first.0.before i (omega arith) below))) (λ within. ap not first.1))

-- where no byte passes, that is all
pub length-all : (p : ℕ → Bool) (text : List ℕ) → Nowhere (Passes p text) 0 (length text) → length text ≡ prefix_len (λ b. not (p b)) text
length-all p text none =
    sym (prefix_len_is (λ b. not (p b)) text (length text) 0 (omega arith) (λ i below. ap not (false_from_ne_true (p (get_or text i 0)) (none i (omega arith) below))) (λ within. absurd (omega (arith, within))))
