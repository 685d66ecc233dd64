-- Texts between quotes.
use Rattle.std.proofs.Common.{◌≡◌, ◌≢◌, ℕ, suc, ◌+◌, Bool, true, false, List, [], ◌∷◌, length, take, drop, refl, ap, arith, ◌∙◌, Option, None, Some}
use Rattle.std.specs.Option.{option_map}
use Rattle.std.specs.List.{position_or_len}
use Rattle.aatry_log_lines.specs.Values.{before_last_quote, is_quote}

-- a text, if one byte is left behind it
abbrev pub before_one : List ℕ → List ℕ → Option (List ℕ)
before_one text [] = None
before_one text (b ∷ []) = Some text
before_one text (b ∷ next ∷ bs) = None

pub before_one-some : (text rest : List ℕ) → length rest ≡ 1 → before_one text rest ≡ Some text
before_one-some text [] one = absurd (omega (arith, one))
before_one-some text (b ∷ []) one = refl
before_one-some text (b ∷ next ∷ bs) one = absurd (omega (arith, one))

pub before_one-none : (text rest : List ℕ) → length rest ≢ 1 → before_one text rest ≡ None
before_one-none text [] other = refl
before_one-none text (b ∷ []) other = absurd (other refl)
before_one-none text (b ∷ next ∷ bs) other = refl

before_one-more : (b : ℕ) (text rest : List ℕ) → option_map (λ text. b ∷ text) (before_one text rest) ≡ before_one (b ∷ text) rest
before_one-more b text [] = refl
before_one-more b text (c ∷ []) = refl
before_one-more b text (c ∷ next ∷ bs) = refl

-- what stands before the first quote, by what is left from there
pub before_last_quote-cut : (text : List ℕ)
    → before_last_quote text ≡ before_one (take (position_or_len is_quote text) text) (drop (position_or_len is_quote text) text)
before_last_quote-cut [] = refl
before_last_quote-cut (b ∷ bs) = by (is_quote b) refl bs (before_last_quote-cut bs)
  where
    by : (closes : Bool) → is_quote b ≡ closes → (bs : List ℕ)
        → before_last_quote bs ≡ before_one (take (position_or_len is_quote bs) bs) (drop (position_or_len is_quote bs) bs)
        → before_last_quote (b ∷ bs)
        ≡ before_one (take (position_or_len is_quote (b ∷ bs)) (b ∷ bs)) (drop (position_or_len is_quote (b ∷ bs)) (b ∷ bs))
    by true h [] rest = rw h refl
    by true h (c ∷ cs) rest = rw h refl
    by false h bs rest =
        let size = position_or_len is_quote bs in
        let one_more : suc size ≡ 1 + size = omega arith in
        rw h (ap (option_map (λ text. b ∷ text)) rest ∙ before_one-more b (take size bs) (drop size bs)
        ∙ ap (λ n. before_one (take n (b ∷ bs)) (drop n (b ∷ bs))) one_more)
