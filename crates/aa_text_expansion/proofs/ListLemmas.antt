-- Lists that are kept where more of them are made.
use Rattle.std.proofs.Common.{◌≡◌, ℕ, ◌+◌, ◌<◌, List, [], ◌∷◌, ◌++◌, length, take, get_or, append-nil, append_assoc, arith, refl, sym, ap, ◌∙◌}
use Rattle.std.specs.Prelude.{Option, None, Some}
use Rattle.std.proofs.lemmas.Grind.{flat_map-append}
use Rattle.std.proofs.lemmas.List.{take_more}
use Rattle.aa_text_expansion.specs.Choices.{choices, choices_within}
use Rattle.aa_text_expansion.specs.Expanding.{AreThere, held}
use Rattle.aa_text_expansion.specs.Joining.{cut_off}
use Rattle.aa_text_expansion.specs.Lists.{AreKept, IsMade, list_at}
use Rattle.aa_text_expansion.specs.Parts.{Part, parts}
use Rattle.aa_text_expansion.proofs.ChoiceLemmas.{choices-same}
use Rattle.aa_text_expansion.proofs.JoiningLemmas.{cut_off-append}

-- as they are
pub kept-same : (lists : List (List (List ℕ))) → AreKept lists lists
kept-same lists = record { as_many = omega arith; same = λ number within. refl }

-- where they were kept before
pub kept-then : (before middle after : List (List (List ℕ))) → AreKept before middle → AreKept middle after → AreKept before after
kept-then before middle after first second = record {
  as_many = let a = first.as_many in let b = second.as_many in omega arith;
  same = λ number within. let a = first.as_many in second.same number (omega arith) ∙ first.same number within;
}

-- a list that is there already
pub made-already : (lists : List (List (List ℕ))) (number : ℕ) (texts : List (List ℕ)) → number < length lists → list_at lists number ≡ texts → IsMade lists number texts lists
made-already lists number texts within same = record { kept = kept-same lists; within = within; value = ap cut_off same }

-- the lists of names are there among more
pub there-kept : (before after : List (List (List ℕ))) (numbers : List ℕ → Option ℕ) → AreThere before numbers → AreKept before after → AreThere after numbers
there-kept before after numbers there kept name number has = let a = kept.as_many in let b = there name number has in omega arith

-- and hold the same
pub held-kept : (before after : List (List (List ℕ))) (numbers : List ℕ → Option ℕ) → AreThere before numbers → AreKept before after → (name : List ℕ) → held after numbers name ≡ held before numbers name
held-kept before after numbers there kept name = by (numbers name) refl
  where
    by : (found : Option ℕ) → numbers name ≡ found → held after numbers name ≡ held before numbers name
    by None e = rw (held, e) refl
    by (Some number) e = rw (held, e) (kept.same number (there name number e))

-- so that choices are the same
pub choices-kept : (before after : List (List (List ℕ))) (numbers : List ℕ → Option ℕ) → AreThere before numbers → AreKept before after → (ps : List Part)
    → choices (held after numbers) ps ≡ choices (held before numbers) ps
choices-kept before after numbers there kept ps = choices-same (held after numbers) (held before numbers) (held-kept before after numbers there kept) ps

-- of words
pub within-kept : (before after : List (List (List ℕ))) (numbers : List ℕ → Option ℕ) → AreThere before numbers → AreKept before after → (words : List (List ℕ))
    → choices_within (held after numbers) words ≡ choices_within (held before numbers) words
within-kept before after numbers there kept [] = refl
within-kept before after numbers there kept (word ∷ words) = rw (choices-kept before after numbers there kept (parts word), within-kept before after numbers there kept words) refl

-- one more of some words, behind other texts
pub word-expanded : (values : List ℕ → List (List ℕ)) (front so_far next : List (List ℕ)) (words : List (List ℕ)) (at : ℕ) (word : List ℕ) → at < length words → word ≡ get_or words at word
    → cut_off so_far ≡ cut_off (front ++ choices_within values (take at words)) → cut_off next ≡ cut_off (choices values (parts word))
    → cut_off (so_far ++ next) ≡ cut_off (front ++ choices_within values (take (at + 1) words))
word-expanded values front so_far next words at word within e s n =
    let first = choices_within values (take at words) in
    let last = choices values (parts word) in
    cut_off-append so_far next ∙ rw (s, n) (sym (cut_off-append (front ++ first) last)) ∙ ap cut_off (append_assoc front first last)
    ∙ ap (λ all. cut_off (front ++ all)) (sym (
    ap (choices_within values) (take_more words at word within ∙ ap (λ w. take at words ++ w ∷ []) (sym e))
    ∙ flat_map-append (λ w. choices values (parts w)) (take at words) (word ∷ []) ∙ ap (λ all. first ++ all) (append-nil last)
    ))

-- words, and more words behind them
pub words-expanded : (before middle after : List (List (List ℕ))) (numbers : List ℕ → Option ℕ) (none first number : ℕ) (words more : List (List ℕ)) → AreThere before numbers
    → (lists : List (List (List ℕ))) → IsMade before none [] lists → IsMade lists first (list_at lists none ++ choices_within (held lists numbers) words) middle
    → IsMade middle number (list_at middle first ++ choices_within (held middle numbers) more) after
    → cut_off (list_at after number) ≡ cut_off (choices_within (held before numbers) (words ++ more))
words-expanded before middle after numbers none first number words more there lists nothing one other =
    let kept = kept-then before lists middle nothing.kept one.kept in
    let start : cut_off (list_at lists none) ≡ [] = nothing.value in
    let early : cut_off (list_at middle first) ≡ cut_off (choices_within (held before numbers) words) =
    one.value ∙ cut_off-append (list_at lists none) (choices_within (held lists numbers) words)
    ∙ rw start (ap cut_off (within-kept before lists numbers there nothing.kept words))
    in
    other.value ∙ cut_off-append (list_at middle first) (choices_within (held middle numbers) more)
    ∙ rw (early, within-kept before middle numbers there kept more) (sym (cut_off-append (choices_within (held before numbers) words) (choices_within (held before numbers) more)))
    ∙ ap cut_off (sym (flat_map-append (λ w. choices (held before numbers) (parts w)) words more))
