-- Bytes that stand for themselves are elements of their own, whatever comes before them.
use Rattle.std.proofs.Common.{◌≡◌, ◌∙◌, ◌≤◌, ◌<◌, ◌≢◌, ◌-◌, ℕ, zero, suc, true, false, ◌==◌, List, [], ◌∷◌, ◌++◌, drop, get_or, length, take, refl, sym, ap, subst, arith}
use Rattle.std.proofs.lemmas.Bool.Decides.{nat_tests}
use Rattle.std.proofs.lemmas.List.{length-drop, take_all}
use Rattle.std.proofs.lemmas.List.Sums.{prefix_len-le-length, prefix_len_passes}
use Rattle.std.specs.List.{prefix_len}
use Rattle.aa_glob_syntax.specs.Elements.{Single, context_after, elements}
use Rattle.aa_glob_syntax.specs.Items.{Byte}
use Rattle.aa_glob_syntax.specs.Literals.{is_literal, literals}
use Rattle.aa_glob_syntax.specs.Symbols.{symbols}
use Rattle.aa_glob_syntax.specs.declared.context.Context.{Context}
use Rattle.aa_glob_syntax.specs.declared.symbol.Symbol.{Symbol}
use Rattle.aa_glob_syntax.specs.declared.symbol.Symbol.TheVariants.{Plain}
use Rattle.aa_glob_syntax.proofs.SymbolLemmas.{symbols-plain}

-- such a byte passes none of the tests that a reader makes
tests-of : (b : ℕ) → is_literal b ≡ true
    → ((b == 92) ≡ false) × ((b == 42) ≡ false) × ((b == 91) ≡ false) × ((b == 63) ≡ false) × ((b == 123) ≡ false) × ((b == 44) ≡ false) × ((b == 125) ≡ false)
tests-of b literal =
    (grind (arith, nat_tests), grind (arith, nat_tests), grind (arith, nat_tests), grind (arith, nat_tests), grind (arith, nat_tests), grind (arith, nat_tests), grind (arith, nat_tests))

-- a text that begins with one has it as its first element
pub elements-literal : (context : Context) (b : ℕ) (bs : List ℕ) → is_literal b ≡ true → elements context (symbols (b ∷ bs)) ≡ Single (Byte b) ∷ elements (context_after b) (symbols bs)
elements-literal context b bs literal =
    let tests = tests-of b literal in
    ap (elements context) (symbols-plain b bs tests.0) ∙ after (symbols bs)
  where
    after : (ls : List Symbol) → elements context (Plain b ∷ ls) ≡ Single (Byte b) ∷ elements (context_after b) ls
    after ls = let tests = tests-of b literal in rw (tests.1, tests.2, tests.3, tests.4, tests.5, tests.6) refl

-- the context after so many bytes of a text
abbrev context_at : Context → ℕ → List ℕ → Context
context_at context zero text = context
context_at context (suc n) text = context_after (get_or text n 0)

context_at-more : (context : Context) (b count : ℕ) (bs : List ℕ) → context_at (context_after b) count bs ≡ context_at context (suc count) (b ∷ bs)
context_at-more context b zero bs = refl
context_at-more context b (suc n) bs = refl

-- a text that begins with some has them as its first elements
elements-literals : (count : ℕ) (context : Context) (text : List ℕ) → count ≤ length text → ((i : ℕ) → i < count → is_literal (get_or text i 0) ≡ true)
    → elements context (symbols text) ≡ literals (take count text) ++ elements (context_at context count text) (symbols (drop count text))
elements-literals zero context text within each = refl
elements-literals (suc n) context [] within each = absurd (omega (arith, within))
elements-literals (suc n) context (b ∷ bs) within each =
    let first : is_literal b ≡ true = each 0 (omega arith) in
    let others = elements-literals n (context_after b) bs (omega (arith, within)) (λ i before. each (suc i) (omega (arith, before))) in
    elements-literal context b bs first ∙ ap (λ es. Single (Byte b) ∷ es) others
    ∙ ap (λ c. Single (Byte b) ∷ (literals (take n bs) ++ elements c (symbols (drop n bs)))) (context_at-more context b n bs)

context_at-some : (context : Context) (count : ℕ) (text : List ℕ) → count ≢ 0 → context_at context count text ≡ context_after (get_or text (count - 1) 0)
context_at-some context zero text some = absurd (some refl)
context_at-some context (suc n) text some = let last : suc n - 1 ≡ n = omega arith in ap (λ i. context_after (get_or text i 0)) (sym last)

-- all of those with which it begins
pub elements-after : (context : Context) (count : ℕ) (text : List ℕ) → count ≡ prefix_len is_literal text → count ≢ 0 → (after : Context) → after ≡ context_after (get_or text (count - 1) 0)
    → elements context (symbols text) ≡ literals (take count text) ++ elements after (symbols (take (length text - count) (drop count text)))
elements-after context count text counted some after is_after =
    let within : count ≤ length text = subst (λ n. n ≤ length text) (sym counted) (prefix_len-le-length is_literal text) in
    let each = λ (i : ℕ) (before : i < count). prefix_len_passes is_literal text i 0 (subst (λ n. i < n) counted before) in
    let all : take (length text - count) (drop count text) ≡ drop count text = take_all (length text - count) (drop count text) (subst (λ n. n ≤ length text - count) (sym (length-drop count text)) (omega arith)) in
    elements-literals count context text within each
    ∙ ap (λ c. literals (take count text) ++ elements c (symbols (drop count text))) (context_at-some context count text some ∙ sym is_after)
    ∙ ap (λ bs. literals (take count text) ++ elements after (symbols bs)) (sym all)
