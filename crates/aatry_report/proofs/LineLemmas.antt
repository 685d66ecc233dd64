-- The lines of a text that is cut at a place.
use Rattle.std.proofs.Common.{◌≡◌, ℕ, zero, suc, ◌+◌, ◌-◌, ◌≤◌, Bool, true, false, not, ◌||◌, cond, List, [], ◌∷◌, ◌++◌, length, take, drop, reverse, inl, inr, refl, sym, ap, ◌∙◌, arith, take-append-drop}
use Rattle.std.specs.Prelude.{◌==◌, Some, slice_get, slice_index, slice_range}
use Rattle.std.specs.List.{after_last, before_first, count_by, list_any, onto_first, position_or_len, slice_split, suffix_len}
use Rattle.std.proofs.Math.Seq.{take-append-add}
use Rattle.std.proofs.lemmas.Bool.{eq-eqb, eqb-true}
use Rattle.std.proofs.lemmas.Bool.Decides.{eqb_tells, nat_tests}
use Rattle.std.proofs.lemmas.List.{drop-append-le, drop-take, length-reverse, reverse-append}
use Rattle.std.proofs.lemmas.List.Folds.{length-prefix_len, list_any-append, position_or_len_push}
use Rattle.std.proofs.lemmas.List.Sums.{suffix_len-le-length, sum_by-append, sum_by-cons}
use Rattle.aa_bytes.specs.Bytes.{line_feed}
use Rattle.aa_bytes.specs.Texts.{has_byte}
use Rattle.aatry_report.specs.Lines.{first_line, is_line_feed, last_line, line_at, line_feed_count, line_number, lines_of, whole_line_at}

-- what is cut out of two texts, from a place in the first up to one in the second
pub cut_over_seam : (xs ys : List ℕ) (start n : ℕ) → start ≤ length xs → slice_range (xs ++ ys) start (length xs + n) ≡ drop start xs ++ take n ys
cut_over_seam xs ys start n h =
    let size : start + (length xs + n - start) ≡ length xs + n = omega arith in
    sym (drop-take start (length xs + n - start) (xs ++ ys))
    ∙ ap (λ k. drop start (take k (xs ++ ys))) size
    ∙ ap (drop start) (take-append-add xs ys n)
    ∙ drop-append-le start xs (take n ys) h

module _ (p : ℕ → Bool) where
  -- how many at the end fail, with one more in front
  suffix_len-cons : (x : ℕ) (xs : List ℕ)
      → suffix_len (λ x. not (p x)) (x ∷ xs) ≡ cond (suffix_len (λ x. not (p x)) xs == length xs) (length xs + cond (p x) 0 1) (suffix_len (λ x. not (p x)) xs)
  suffix_len-cons x xs =
      ap (position_or_len p) (reverse-append (x ∷ []) xs)
      ∙ position_or_len_push p (reverse xs) x
      ∙ ap (λ n. cond (suffix_len (λ x. not (p x)) xs == n) (n + cond (p x) 0 1) (suffix_len (λ x. not (p x)) xs)) (length-reverse xs)

  -- how many pass, with one more in front
  count_by-cons : (x : ℕ) (xs : List ℕ) → count_by p (x ∷ xs) ≡ cond (p x) 1 0 + count_by p xs
  count_by-cons x xs = sum_by-cons (λ x. cond (p x) 1 0) x xs

  -- with one more in front, still all fail just where none passes
  step : (s l n : ℕ) (b : Bool) → s ≤ l → (s == l) ≡ (n == 0) → (cond (s == l) (l + cond b 0 1) s == suc l) ≡ (cond b 1 0 + n == 0)
  step s l n true h e = grind (arith, nat_tests)
  step s l n false h e = grind (arith, nat_tests)

  -- all fail where none passes
  none_passes : (xs : List ℕ) → (suffix_len (λ x. not (p x)) xs == length xs) ≡ (count_by p xs == 0)
  none_passes [] = refl
  none_passes (x ∷ xs) =
      rw (suffix_len-cons x xs, count_by-cons x xs)
      (step (suffix_len (λ x. not (p x)) xs) (length xs) (count_by p xs) (p x) (suffix_len-le-length (λ x. not (p x)) xs) (none_passes xs))

  -- what stands behind the last that passes, with one more in front
  behind_last : (x : ℕ) (xs : List ℕ) (s n : ℕ) (b : Bool) → s ≤ length xs → (s == length xs) ≡ (n == 0)
      → drop (suc (length xs) - cond (s == length xs) (length xs + cond b 0 1) s) (x ∷ xs) ≡ cond (n == 0) (cond b xs (x ∷ xs)) (drop (length xs - s) xs)
  behind_last x xs s n b h e =
      elim (eqb_tells s (length xs)) [
        | inl w ↦ let none : (n == 0) ≡ true = sym e ∙ w.0 in rw (w.0, none) (all b w.1)
        | inr w ↦
            let some : (n == 0) ≡ false = sym e ∙ w.0 in
            let less : suc (length xs) - s ≡ suc (length xs - s) = omega arith in
            rw (w.0, some) (ap (λ k. drop k (x ∷ xs)) less)
      ]
    where
      all : (b : Bool) → s ≡ length xs → drop (suc (length xs) - (length xs + cond b 0 1)) (x ∷ xs) ≡ cond b xs (x ∷ xs)
      all true same = let one : suc (length xs) - (length xs + 0) ≡ 1 = omega arith in ap (λ k. drop k (x ∷ xs)) one
      all false same = let no : suc (length xs) - (length xs + 1) ≡ 0 = omega arith in ap (λ k. drop k (x ∷ xs)) no

  -- the same, in the words of the definitions
  after_last-cons : (x : ℕ) (xs : List ℕ) → after_last p (x ∷ xs) ≡ cond (count_by p xs == 0) (cond (p x) xs (x ∷ xs)) (after_last p xs)
  after_last-cons x xs =
      ap (λ n. drop (suc (length xs) - n) (x ∷ xs)) (suffix_len-cons x xs)
      ∙ behind_last x xs (suffix_len (λ x. not (p x)) xs) (count_by p xs) (p x) (suffix_len-le-length (λ x. not (p x)) xs) (none_passes xs)

  -- all stands behind the last where none passes
  after_last_none : (xs : List ℕ) → count_by p xs ≡ 0 → after_last p xs ≡ xs
  after_last_none xs e =
      let whole = eqb-true (suffix_len (λ x. not (p x)) xs) (length xs) (none_passes xs ∙ eq-eqb (count_by p xs) 0 e) in
      let no : length xs - suffix_len (λ x. not (p x)) xs ≡ 0 = omega arith in
      ap (λ k. drop k xs) no

  -- of parts with one more in front of the first, the first and another
  first_onto : (x : ℕ) (parts : List (List ℕ)) (part : List ℕ) → slice_get parts 0 ≡ Some part → slice_get (onto_first x parts) 0 ≡ Some (x ∷ part)
  first_onto x [] part e = cc
  first_onto x (one ∷ parts) part e = cc

  -- and a later one
  later_onto : (x : ℕ) (parts : List (List ℕ)) (k : ℕ) (part : List ℕ) → slice_get parts (suc k) ≡ Some part → slice_get (onto_first x parts) (suc k) ≡ Some part
  later_onto x [] k part e = cc
  later_onto x (one ∷ parts) k part e = e

  -- the first part is what stands before the first that passes
  first_part : (ys : List ℕ) → slice_get (slice_split p ys) 0 ≡ Some (before_first p ys)
  first_part [] = refl
  first_part (y ∷ ys) = by (p y) (slice_split p ys) (first_part ys)
    where
      one_more : (n : ℕ) → suc n ≡ 1 + n
      one_more n = omega arith

      by : (b : Bool) (parts : List (List ℕ)) → slice_get parts 0 ≡ Some (before_first p ys)
          → slice_get (cond b ([] ∷ parts) (onto_first y parts)) 0 ≡ Some (take (cond (not b) (1 + position_or_len p ys) 0) (y ∷ ys))
      by true parts e = refl
      by false parts e = first_onto y parts (before_first p ys) e ∙ ap (λ k. Some (take k (y ∷ ys))) (one_more (position_or_len p ys))

  -- the part that stands over a seam
  pub part_over_seam : (xs ys : List ℕ) → slice_get (slice_split p (xs ++ ys)) (count_by p xs) ≡ Some (after_last p xs ++ before_first p ys)
  part_over_seam [] ys = first_part ys
  part_over_seam (x ∷ xs) ys =
      rw (count_by-cons x xs, after_last-cons x xs) (by (p x) (count_by p xs) (slice_split p (xs ++ ys)) (after_last p xs) (part_over_seam xs ys) (after_last_none xs))
    where
      next : (n : ℕ) → 1 + suc n ≡ suc (suc n)
      next n = omega arith

      same : (n : ℕ) → 0 + suc n ≡ suc n
      same n = omega arith

      some : (n : ℕ) → (suc n == 0) ≡ false
      some n = grind (arith, nat_tests)

      by : (b : Bool) (n : ℕ) (parts : List (List ℕ)) (last : List ℕ) → slice_get parts n ≡ Some (last ++ before_first p ys) → (n ≡ 0 → last ≡ xs)
          → slice_get (cond b ([] ∷ parts) (onto_first x parts)) (cond b 1 0 + n) ≡ Some (cond (n == 0) (cond b xs (x ∷ xs)) last ++ before_first p ys)
      by true zero parts last e all = e ∙ ap (λ l. Some (l ++ before_first p ys)) (all refl)
      by true (suc n) parts last e all = ap (slice_get ([] ∷ parts)) (next n) ∙ e ∙ ap (λ b. Some (cond b xs last ++ before_first p ys)) (sym (some n))
      by false zero parts last e all = first_onto x parts (xs ++ before_first p ys) (e ∙ ap (λ l. Some (l ++ before_first p ys)) (all refl))
      by false (suc n) parts last e all =
          ap (slice_get (onto_first x parts)) (same n) ∙ later_onto x parts n (last ++ before_first p ys) e ∙ ap (λ b. Some (cond b (x ∷ xs) last ++ before_first p ys)) (sym (some n))

  -- what stands behind the last that passes goes on where none passes
  pub after_last-append : (xs ys : List ℕ) → count_by p ys ≡ 0 → after_last p (xs ++ ys) ≡ after_last p xs ++ ys
  after_last-append [] ys none = after_last_none ys none
  after_last-append (x ∷ xs) ys none =
      after_last-cons x (xs ++ ys)
      ∙ ap (λ n. cond (n == 0) (cond (p x) (xs ++ ys) (x ∷ (xs ++ ys))) (after_last p (xs ++ ys))) (count none)
      ∙ by (count_by p xs == 0) (p x) (after_last-append xs ys none)
      ∙ ap (λ last. last ++ ys) (sym (after_last-cons x xs))
    where
      count : count_by p ys ≡ 0 → count_by p (xs ++ ys) ≡ count_by p xs
      count none = omega (arith, sum_by-append (λ x. cond (p x) 1 0) xs ys)

      by : (few b : Bool) → after_last p (xs ++ ys) ≡ after_last p xs ++ ys
          → cond few (cond b (xs ++ ys) (x ∷ (xs ++ ys))) (after_last p (xs ++ ys)) ≡ cond few (cond b xs (x ∷ xs)) (after_last p xs) ++ ys
      by true true rest = refl
      by true false rest = refl
      by false b rest = rest

  -- none before the first that passes does
  before_first_fails : (ys : List ℕ) → list_any p (before_first p ys) ≡ false
  before_first_fails [] = refl
  before_first_fails (y ∷ ys) = by (p y) refl (before_first_fails ys)
    where
      by : (b : Bool) → p y ≡ b → list_any p (before_first p ys) ≡ false → list_any p (take (cond (not b) (1 + position_or_len p ys) 0) (y ∷ ys)) ≡ false
      by true e rest = refl
      by false e rest =
          let more : 1 + position_or_len p ys ≡ suc (position_or_len p ys) = omega arith in
          ap (λ n. list_any p (take n (y ∷ ys))) more ∙ ap (λ b. b || list_any p (before_first p ys)) e ∙ rest

  -- none behind the last that passes does
  after_last_fails : (xs : List ℕ) → list_any p (after_last p xs) ≡ false
  after_last_fails [] = refl
  after_last_fails (x ∷ xs) = ap (list_any p) (after_last-cons x xs) ∙ by (count_by p xs == 0) (p x) refl refl (after_last_fails xs)
    where
      all : (count_by p xs == 0) ≡ true → list_any p (after_last p xs) ≡ false → list_any p xs ≡ false
      all none rest = ap (list_any p) (sym (after_last_none xs (eqb-true (count_by p xs) 0 none))) ∙ rest

      by : (none b : Bool) → (count_by p xs == 0) ≡ none → p x ≡ b → list_any p (after_last p xs) ≡ false
          → list_any p (cond none (cond b xs (x ∷ xs)) (after_last p xs)) ≡ false
      by true true none e rest = all none rest
      by true false none e rest = ap (λ b. b || list_any p xs) e ∙ all none rest
      by false b some e rest = rest

  -- of a list where none passes, none of a front passes
  take_fails : (n : ℕ) (xs : List ℕ) → list_any p xs ≡ false → list_any p (take n xs) ≡ false
  take_fails n xs e = by (list_any p (take n xs)) (list_any p (drop n xs)) (sym (list_any-append p (take n xs) (drop n xs)) ∙ ap (list_any p) (take-append-drop n xs) ∙ e)
    where
      by : (one other : Bool) → (one || other) ≡ false → one ≡ false
      by true other e = e
      by false other e = refl

-- the line of a place, as it is cut out of the text
pub whole_line_at-cut : (text front behind first : List ℕ) (start at : ℕ) → front ≡ take at text → behind ≡ drop at text → first ≡ first_line behind
    → drop start front ≡ last_line front → start ≤ length front → slice_range text start (length front + length first) ≡ whole_line_at text at
whole_line_at-cut text front behind first start at of_front of_behind of_first last within =
    let whole : text ≡ front ++ behind = sym (take-append-drop at text) ∙ ap (λ xs. xs ++ drop at text) (sym of_front) ∙ ap (λ ys. front ++ ys) (sym of_behind) in
    let size : length first ≡ position_or_len is_line_feed behind = ap length of_first ∙ length-prefix_len (λ b. not (is_line_feed b)) behind in
    ap (λ t. slice_range t start (length front + length first)) whole
    ∙ cut_over_seam front behind start (length first) within
    ∙ ap (λ n. drop start front ++ take n behind) size
    ∙ ap (λ xs. xs ++ first_line behind) last
    ∙ ap (λ xs. last_line xs ++ first_line behind) of_front
    ∙ ap (λ ys. last_line (take at text) ++ first_line ys) of_behind

-- the line of a place is the one of its number
pub whole_line_at-number : (text : List ℕ) (at : ℕ) → slice_get (lines_of text) (line_number text at - 1) ≡ Some (whole_line_at text at)
whole_line_at-number text at =
    let number : line_feed_count (take at text) + 1 - 1 ≡ line_feed_count (take at text) = omega arith in
    ap (slice_get (lines_of text)) number
    ∙ ap (λ t. slice_get (lines_of t) (line_feed_count (take at text))) (sym (take-append-drop at text))
    ∙ part_over_seam is_line_feed (take at text) (drop at text)

-- it has no line feed
whole_line_at-unbroken : (text : List ℕ) (at : ℕ) → has_byte line_feed (whole_line_at text at) ≡ false
whole_line_at-unbroken text at =
    list_any-append is_line_feed (last_line (take at text)) (first_line (drop at text))
    ∙ ap (λ b. b || has_byte line_feed (first_line (drop at text))) (after_last_fails is_line_feed (take at text))
    ∙ before_first_fails is_line_feed (drop at text)

-- nor has it as it is shown
pub line_at-unbroken : (text : List ℕ) (at : ℕ) → has_byte line_feed (line_at text at) ≡ false
line_at-unbroken text at = by (slice_index line (length line - 1) == 13)
  where
    line : List ℕ
    line = whole_line_at text at

    by : (b : Bool) → has_byte line_feed (cond b (take (length line - 1) line) line) ≡ false
    by true = take_fails is_line_feed (length line - 1) line (whole_line_at-unbroken text at)
    by false = whole_line_at-unbroken text at
