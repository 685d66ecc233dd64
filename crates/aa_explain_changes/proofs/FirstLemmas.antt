-- The first path, of those that stand for all, on which answers change that a rule takes part in.
use Rattle.std.proofs.Common.{◌≡◌, ℕ, suc, ◌≤◌, Bool, true, false, if◌then◌else◌, List, [], ◌∷◌, length, refl, sym, ◌∙◌, ap, subst, inl, inr, arith, true≢false}
use Rattle.std.specs.Prelude.{AllPairs, Contains, None, Option, Some}
use Rattle.aa_glob_nfa.proofs.ListLemmas.{Contains-cons_cases, Contains-first, Contains-later}
use Rattle.aa_glob_paths.specs.Laws.{paths_of}
use Rattle.aa_glob_paths.specs.declared.outcome.Outcome.{Outcome}
use Rattle.aa_profile_data.specs.declared.profile.FileRule.{FileRule}
use Rattle.aa_explain_changes.specs.Rules.{FileChange, changes_at, told_at}
use Rattle.aa_explain_changes.specs.Sides.{Sides}
use Rattle.aa_explain_changes.specs.code.Kinds.{first_told}

abbrev pub ByLength : List Outcome → Type 0
ByLength os = AllPairs (λ one later. length one.path.items ≤ length later.path.items) os

module _ (sides : Sides) (rule : FileRule) where
  abbrev test : List ℕ → Bool
  test = changes_at sides rule

  abbrev first : List Outcome → Option FileChange
  first os = first_told sides rule (paths_of os)

  -- where nothing is told, answers change on none of them
  pub none-changes : (os : List Outcome) → first os ≡ None → (o : Outcome) → Contains os o → test o.path.items ≡ false
  none-changes [] none o at = absurd (omega (arith, at.1))
  none-changes (one ∷ os) none o at = by (test one.path.items) refl none (none-changes os)
    where
      by : (b : Bool) → test one.path.items ≡ b → (if b then Some (told_at sides rule one.path.items) else first os) ≡ None
          → (first os ≡ None → (o : Outcome) → Contains os o → test o.path.items ≡ false) → test o.path.items ≡ false
      by true is none later = absurd cc
      by false is none later = elim (Contains-cons_cases one os o at) [
        | inl same ↦ ap (λ (o : Outcome). test o.path.items) (sym same) ∙ is
        | inr more ↦ later none o more
      ]

  -- what is told is told of one of them, on which they do
  pub first-among : (os : List Outcome) (told : FileChange) → first os ≡ Some told
      → (o : Outcome) × Contains os o × (told ≡ told_at sides rule o.path.items) × (test o.path.items ≡ true)
  first-among [] told some = absurd cc
  first-among (one ∷ os) told some = by (test one.path.items) refl some (first-among os told)
    where
      by : (b : Bool) → test one.path.items ≡ b → (if b then Some (told_at sides rule one.path.items) else first os) ≡ Some told
          → (first os ≡ Some told → (o : Outcome) × Contains os o × (told ≡ told_at sides rule o.path.items) × (test o.path.items ≡ true))
          → (o : Outcome) × Contains (one ∷ os) o × (told ≡ told_at sides rule o.path.items) × (test o.path.items ≡ true)
      by true is some later =
          let same : told_at sides rule one.path.items ≡ told = cc in (one, Contains-first one os, sym same, is)
      by false is some later = let there = later some in (there.0, Contains-later one os there.0 there.1, there.2, there.3)

  -- and no shorter one is among them
  pub first-shortest : (os : List Outcome) (told : FileChange) → ByLength os → first os ≡ Some told
      → (o : Outcome) → Contains os o → test o.path.items ≡ true → length told.path ≤ length o.path.items
  first-shortest [] told rise some o at passes = absurd (omega (arith, at.1))
  first-shortest (one ∷ os) told rise some o at passes =
      by (test one.path.items) refl some (first-shortest os told (λ i j d before within. rise (suc i) (suc j) d (omega (arith, before)) (omega (arith, within))))
    where
      by : (b : Bool) → test one.path.items ≡ b → (if b then Some (told_at sides rule one.path.items) else first os) ≡ Some told
          → (first os ≡ Some told → (o : Outcome) → Contains os o → test o.path.items ≡ true → length told.path ≤ length o.path.items)
          → length told.path ≤ length o.path.items
      by true is some later =
          let same : told_at sides rule one.path.items ≡ told = cc in
          subst (λ (t : FileChange). length t.path ≤ length o.path.items) same (elim (Contains-cons_cases one os o at) [
            | inl own ↦ subst (λ (x : Outcome). length one.path.items ≤ length x.path.items) own (omega arith)
            | inr more ↦
                subst (λ (x : Outcome). length one.path.items ≤ length x.path.items) more.2
                (rise 0 (suc more.0) o (omega arith) (omega (arith, more.1)))
          ])
      by false is some later = elim (Contains-cons_cases one os o at) [
        | inl own ↦ absurd (true≢false (sym passes ∙ ap (λ (x : Outcome). test x.path.items) (sym own) ∙ is))
        | inr more ↦ later some o more passes
      ]
