-- What is told of a rule by the kinds of paths.
use Rattle.std.proofs.Common.{◌≡◌, ℕ, Bool, true, false, not, ◌||◌, if◌then◌else◌, List, ◌∷◌, refl, sym, ◌∙◌, ap, subst, true≢false, nat_eq}
use Rattle.std.specs.Prelude.{Contains, None, Some, slice_get}
use Rattle.std.specs.List.{list_any}
use Rattle.std.proofs.lemmas.Bool.{eq-eqb, eqb-true}
use Rattle.aa_profile_data.specs.Matching.{AreMatchingRules, is_matching}
use Rattle.aa_profile_data.specs.declared.profile.FileRule.{FileRule}
use Rattle.aa_profile_data.specs.declared.profile.Rule.{Rule}
use Rattle.aa_profile_data.specs.declared.profile.Rule.TheVariants.{File}
use Rattle.aa_explain_changes.specs.Rules.{FileChange, changes_at, changes_for, is_matched_by, told_at, told_for}
use Rattle.aa_explain_changes.specs.Sides.{Sides}
use Rattle.aa_explain_changes.specs.code.Kinds.{first_told, told_if}
use Rattle.aa_explain_changes.proofs.LoneLemmas.{exists, there}

-- the place of a rule is among those of the rules that match exactly where its pattern does
pub matched-place : (rules : List Rule) (path places : List ℕ) (n : ℕ) (rule : FileRule) → AreMatchingRules rules path places → slice_get rules n ≡ Some (File rule)
    → list_any (λ y. nat_eq y n) places ≡ is_matched_by rule path
matched-place rules path places n rule all at = by (is_matched_by rule path) refl
  where
    by : (b : Bool) → is_matched_by rule path ≡ b → list_any (λ y. nat_eq y n) places ≡ b
    by true is = there (λ y. nat_eq y n) places n ((all n).1 (File rule, at, is)) (eq-eqb n n refl)
    by false is = of (list_any (λ y. nat_eq y n) places) refl
      where
        of : (b : Bool) → list_any (λ y. nat_eq y n) places ≡ b → b ≡ false
        of false none = refl
        of true some =
            let found = exists (λ y. nat_eq y n) places some in
            let own = (all n).0 (subst (Contains places) (eqb-true found.0 n found.2) found.1) in
            let same : own.0 ≡ File rule = some-same own.0 (File rule) (sym own.1 ∙ at) in
            absurd (true≢false (sym own.2 ∙ ap (is_matching path) same ∙ is))
          where
            some-same : (one other : Rule) → Some one ≡ Some other → one ≡ other
            some-same one other is = cc

module _ (sides : Sides) (rule : FileRule) (path : List ℕ) where
  -- what is told where answers change of another's file, of that of the task's user alone, or of neither
  pub told-others : changes_for sides rule path false ≡ true → Some (told_for sides rule path false) ≡ told_if sides rule path
  told-others is = λ i. if sym is i || changes_for sides rule path true then Some (told_for sides rule path (not (sym is i))) else None

  pub told-owned : changes_for sides rule path false ≡ false → changes_for sides rule path true ≡ true → Some (told_for sides rule path true) ≡ told_if sides rule path
  told-owned none is = λ i. if sym none i || sym is i then Some (told_for sides rule path (not (sym none i))) else None

  pub told-none : changes_for sides rule path false ≡ false → changes_for sides rule path true ≡ false → None ≡ told_if sides rule path
  told-none none neither = λ i. if sym none i || sym neither i then Some (told_at sides rule path) else None

  -- what is told of the first of some paths, if answers change on that, or else of the others
  pub first-here : (paths : List (List ℕ)) (told : FileChange) → told_if sides rule path ≡ Some told → first_told sides rule (path ∷ paths) ≡ Some told
  first-here paths told some = by (changes_at sides rule path) refl some
    where
      by : (b : Bool) → changes_at sides rule path ≡ b → (if b then Some (told_at sides rule path) else None) ≡ Some told
          → (if b then Some (told_at sides rule path) else first_told sides rule paths) ≡ Some told
      by true is some = some
      by false is none = absurd cc

  pub first-later : (paths : List (List ℕ)) → told_if sides rule path ≡ None → first_told sides rule (path ∷ paths) ≡ first_told sides rule paths
  first-later paths none = by (changes_at sides rule path) refl none
    where
      by : (b : Bool) → changes_at sides rule path ≡ b → (if b then Some (told_at sides rule path) else None) ≡ None
          → (if b then Some (told_at sides rule path) else first_told sides rule paths) ≡ first_told sides rule paths
      by true is some = absurd cc
      by false is none = refl
