-- Numbers of names are gathered from the left.
use Rattle.std.proofs.Common.{◌≡◌, ℕ, ◌+◌, ◌<◌, List, [], ◌∷◌, ◌++◌, map, take, length, get_or, append-nil, append_assoc, refl, sym, ap, ◌∙◌}
use Rattle.std.specs.Prelude.{Option, None, Some}
use Rattle.std.proofs.lemmas.List.{take_more}
use Rattle.aa_text_expansion.specs.Numbers.{numbers_in, numbers_of, numbers_within, with_index, with_indexes}
use Rattle.aa_text_expansion.specs.Parts.{Part, Byte, Name, Unclosed}

-- bytes that stand for themselves have none
pub numbers_of-bytes : (number : List ℕ → Option ℕ) (bytes : List ℕ) → numbers_of number (map Byte bytes) ≡ []
numbers_of-bytes number [] = refl
numbers_of-bytes number (b ∷ bs) = numbers_of-bytes number bs

-- some parts, and others
numbers_of-append : (number : List ℕ → Option ℕ) (ps qs : List Part) → numbers_of number (ps ++ qs) ≡ numbers_of number ps ++ numbers_of number qs
numbers_of-append number [] qs = refl
numbers_of-append number (Byte b ∷ ps) qs = numbers_of-append number ps qs
numbers_of-append number (Name name ∷ ps) qs = by (number name) refl (numbers_of-append number ps qs)
  where
    by : (found : Option ℕ) → number name ≡ found → numbers_of number (ps ++ qs) ≡ numbers_of number ps ++ numbers_of number qs
        → numbers_of number ((Name name ∷ ps) ++ qs) ≡ numbers_of number (Name name ∷ ps) ++ numbers_of number qs
    by None e rest = rw (e, numbers_of) rest
    by (Some index) e rest = rw (e, numbers_of) (ap (◌∷◌ index) rest)
numbers_of-append number (Unclosed ∷ ps) qs = numbers_of-append number ps qs

-- numbers with those of two lists
with_indexes-append : (known xs ys : List ℕ) → with_indexes known (xs ++ ys) ≡ with_indexes (with_indexes known xs) ys
with_indexes-append known [] ys = refl
with_indexes-append known (x ∷ xs) ys = with_indexes-append (with_index known x) xs ys

-- the numbers of some parts, and then those of the parts behind them
pub numbers-behind : (number : List ℕ → Option ℕ) (known more : List ℕ) (ps qs all : List Part) → more ≡ with_indexes known (numbers_of number ps) → ps ++ qs ≡ all
    → with_indexes more (numbers_of number qs) ≡ with_indexes known (numbers_of number all)
numbers-behind number known more ps qs all m e =
    ap (λ l. with_indexes l (numbers_of number qs)) m ∙ sym (with_indexes-append known (numbers_of number ps) (numbers_of number qs))
    ∙ ap (with_indexes known) (sym (numbers_of-append number ps qs) ∙ ap (numbers_of number) e)

-- words, and one more
within-push : (number : List ℕ → Option ℕ) (words : List (List ℕ)) (word : List ℕ) → numbers_within number (words ++ word ∷ []) ≡ numbers_within number words ++ numbers_in number word
within-push number [] word = append-nil (numbers_in number word)
within-push number (first ∷ words) word = ap (λ rest. numbers_in number first ++ rest) (within-push number words word) ∙ sym (append_assoc (numbers_in number first) (numbers_within number words) (numbers_in number word))

-- the numbers of the words so far, and of one more
pub numbers-more : (number : List ℕ → Option ℕ) (known so_far more : List ℕ) (words : List (List ℕ)) (at : ℕ) (word : List ℕ) → at < length words → word ≡ get_or words at word
    → so_far ≡ with_indexes known (numbers_within number (take at words)) → more ≡ with_indexes so_far (numbers_in number word)
    → more ≡ with_indexes known (numbers_within number (take (at + 1) words))
numbers-more number known so_far more words at word within here s m =
    m ∙ ap (λ l. with_indexes l (numbers_in number word)) s ∙ sym (with_indexes-append known (numbers_within number (take at words)) (numbers_in number word))
    ∙ ap (with_indexes known) (sym (within-push number (take at words) word) ∙ ap (λ w. numbers_within number (take at words ++ w ∷ [])) here ∙ sym (ap (numbers_within number) (take_more words at word within)))
