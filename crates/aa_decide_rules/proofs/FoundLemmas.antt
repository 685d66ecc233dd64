-- Rules whose pattern is known to match say what they say when it is tried.
use Rattle.std.proofs.Common.{◌≡◌, ℕ, Bool, true, false, List, [], ◌∷◌, refl, sym, ap, ◌∙◌}
use Rattle.std.specs.List.{filter}
use Rattle.aa_profile_data.specs.Request.{ForFile}
use Rattle.aa_profile_data.specs.declared.profile.Rule.{Rule}
use Rattle.aa_profile_data.specs.declared.profile.Rule.TheVariants.{Cap, File, Net, Other}
use Rattle.aa_decide_rules.proofs.VerdictLemmas.{verdict-matching}
use Rattle.aa_profile_data.specs.Matching.{is_matching}
use Rattle.aa_decide_rules.specs.Verdict.{allows, allows_aloud, covers, denied, denies, denies_aloud, granted, loud, verdict, with_covered}
use Rattle.aa_decide_rules.specs.Found.{covers_found, found_mask, found_verdict, put_if}
use Rattle.aa_decide_rules.specs.Found.{verdict_by}
use Rattle.aa_decide_rules.specs.declared.judgement.Mediation.{Mediation}
use Rattle.aa_profile_data.specs.Picked.{picked}

module _ (letters : ℕ) (owned : Bool) (path : List ℕ) where
  found-covers : (rule : Rule) → is_matching path rule ≡ true → covers_found letters owned rule ≡ covers (ForFile letters owned path) rule
  found-covers (File rule) h = rw h refl
  found-covers (Cap rule) h = absurd cc
  found-covers (Net rule) h = absurd cc
  found-covers (Other rule) h = absurd cc

  found-mask : (test : Rule → Bool) (set : ℕ) (rules : List Rule)
      → found_mask letters owned test set (filter (is_matching path) rules) ≡ with_covered (ForFile letters owned path) test set (filter (is_matching path) rules)
  found-mask test set [] = refl
  found-mask test set (rule ∷ rules) = by (is_matching path rule) refl (λ set. found-mask test set rules)
    where
      Others : Type 0
      Others = (set : ℕ)
          → found_mask letters owned test set (filter (is_matching path) rules) ≡ with_covered (ForFile letters owned path) test set (filter (is_matching path) rules)

      by : (b : Bool) → is_matching path rule ≡ b → Others
          → found_mask letters owned test set (filter (is_matching path) (rule ∷ rules)) ≡ with_covered (ForFile letters owned path) test set (filter (is_matching path) (rule ∷ rules))
      by false e others = rw e (others set)
      by true e others =
          rw e
          (ap (λ covered. found_mask letters owned test (put_if test set covered rule) (filter (is_matching path) rules)) (found-covers rule e)
          ∙ others (put_if test set (covers (ForFile letters owned path) rule) rule))

-- the rules that were found say what all say
pub found-verdict : (mediation : Mediation) (flag : Bool) (rules : List Rule) (letters : ℕ) (owned : Bool) (path places : List ℕ)
    → picked rules places ≡ filter (is_matching path) rules
    → found_verdict mediation flag owned (ForFile letters owned path) (picked rules places) ≡ verdict mediation flag rules (ForFile letters owned path)
found-verdict mediation flag rules letters owned path places found =
    ap (found_verdict mediation flag owned (ForFile letters owned path)) found
    ∙ ap (λ d. verdict_by mediation (ForFile letters owned path) d (mask_of (denies_aloud flag)) (mask_of allows) (mask_of (allows_aloud flag))) (same denies)
    ∙ ap (λ l. verdict_by mediation (ForFile letters owned path) (denied (ForFile letters owned path) passing) l (mask_of allows) (mask_of (allows_aloud flag))) (same (denies_aloud flag))
    ∙ ap (λ g. verdict_by mediation (ForFile letters owned path) (denied (ForFile letters owned path) passing) (loud flag (ForFile letters owned path) passing) g (mask_of (allows_aloud flag))) (same allows)
    ∙ ap
    (verdict_by mediation (ForFile letters owned path) (denied (ForFile letters owned path) passing) (loud flag (ForFile letters owned path) passing) (granted (ForFile letters owned path) passing))
    (same (allows_aloud flag))
    ∙ ap (λ rules. verdict mediation flag rules (ForFile letters owned path)) (sym found)
    ∙ verdict-matching mediation flag rules letters owned path places found
  where
    passing : List Rule
    passing = filter (is_matching path) rules

    mask_of : (Rule → Bool) → ℕ
    mask_of test = found_mask letters owned test 0 passing

    same : (test : Rule → Bool) → mask_of test ≡ with_covered (ForFile letters owned path) test 0 passing
    same test = found-mask letters owned path test 0 rules
