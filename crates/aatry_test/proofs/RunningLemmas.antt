-- What assertions of one line more come to.
use Rattle.std.proofs.Common.{◌≡◌, ◌∙◌, ◌+◌, ℕ, List, [], ◌∷◌, ◌++◌, ap, append-nil, append_assoc, arith, length, refl, subst, sym}
use Rattle.aa_profile_parsing.specs.declared.language.Language.{Language}
use Rattle.aa_set_manager.specs.Manager.{Managed}
use Rattle.aa_text_files.specs.Files.{File}
use Rattle.aatry_test.specs.Running.{AreAsserted, Asserted, IsLineAsserted, and_asserted, nothing_asserted}

-- what assertions come to, by a text and a count
abbrev pub with-text : List ℕ → ℕ → Asserted
with-text text failing = record { text = text; failing = failing }

-- what some, others and more come to
and_asserted-and_asserted : (a b c : Asserted) → and_asserted (and_asserted a b) c ≡ and_asserted a (and_asserted b c)
and_asserted-and_asserted a b c =
    let count : a.failing + b.failing + c.failing ≡ a.failing + (b.failing + c.failing) = omega arith in
    ap (λ text. with-text text (a.failing + b.failing + c.failing)) (append_assoc a.text b.text c.text)
    ∙ ap (λ failing. with-text (a.text ++ (b.text ++ c.text)) failing) count

pub nothing-and : (a : Asserted) → and_asserted nothing_asserted a ≡ a
nothing-and a = let count : 0 + a.failing ≡ a.failing = omega arith in ap (λ failing. with-text a.text failing) count

pub and-nothing : (a : Asserted) → and_asserted a nothing_asserted ≡ a
and-nothing a =
    let count : a.failing + 0 ≡ a.failing = omega arith in
    ap (λ text. with-text text (a.failing + 0)) (append-nil a.text) ∙ ap (λ failing. with-text a.text failing) count

module _ (language : Language) (files : List File) (path : List ℕ) (begin : Managed) (all : List (List ℕ)) where
  -- whatever the lines that are left come to, all come to, behind what was so far and what the next one came to
  pub asserted_one_more : (number : ℕ) (line : List ℕ) (behind : List (List ℕ)) (managed after : Managed) (before now own rest : Asserted)
      → now ≡ and_asserted before own → IsLineAsserted language files path number managed line after own
      → ((r : Asserted) → AreAsserted language files path number managed (line ∷ behind) r → AreAsserted language files path 1 begin all (and_asserted before r))
      → AreAsserted language files path (number + 1) after behind rest → AreAsserted language files path 1 begin all (and_asserted now rest)
  asserted_one_more number line behind managed after before now own rest put asserted so_far more =
      subst (λ a. AreAsserted language files path 1 begin all a) (sym (ap (λ a. and_asserted a rest) put ∙ and_asserted-and_asserted before own rest))
      (so_far (and_asserted own rest) (after, own, rest, refl, asserted, more))

  -- where none is left, all came to what they came to so far
  pub asserted_all : (number : ℕ) (managed : Managed) (behind : List (List ℕ)) (came : Asserted) → length behind ≡ 0
      → ((r : Asserted) → AreAsserted language files path number managed behind r → AreAsserted language files path 1 begin all (and_asserted came r))
      → AreAsserted language files path 1 begin all came
  asserted_all number managed [] came none so_far = subst (λ a. AreAsserted language files path 1 begin all a) (and-nothing came) (so_far nothing_asserted refl)
  asserted_all number managed (line ∷ behind) came none so_far = absurd (omega (arith, none))

  -- before the first, what the lines come to is what all come to
  pub asserted_none : (came rest : Asserted) → came ≡ nothing_asserted
      → AreAsserted language files path 1 begin all rest → AreAsserted language files path 1 begin all (and_asserted came rest)
  asserted_none came rest none asserted =
      subst (λ a. AreAsserted language files path 1 begin all a) (sym (ap (λ a. and_asserted a rest) none ∙ nothing-and rest)) asserted
