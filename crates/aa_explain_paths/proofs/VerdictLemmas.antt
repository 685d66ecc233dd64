-- Verdicts on paths that the same patterns match.
use Rattle.std.proofs.Common.{◌≡◌, ℕ, Bool, not, ◌==◌, ◌&&◌, ◌||◌, List, [], ◌∷◌, refl, ◌∙◌, ap, if◌then◌else◌}
use Rattle.std.specs.Prelude.{Contains}
use Rattle.aa_decide_rules.specs.declared.verdict.Answer.TheVariants.{Allow, Deny}
use Rattle.aa_decide_rules.specs.declared.verdict.Tag.TheVariants.{Audit, Denied}
use Rattle.aa_decide_rules.specs.Verdict.{allows, allows_aloud, applies, covered_by, denies, denies_aloud, logged, verdict, when_missing, with_covered, with_rule}
use Rattle.aa_decide_rules.specs.declared.judgement.Mediation.{Mediation}
use Rattle.aa_glob_nfa.proofs.ListLemmas.{Contains-first, Contains-later}
use Rattle.aa_glob_paths.specs.Laws.{AreMatchedAlike}
use Rattle.aa_profile_data.specs.Access.{common, union, without}
use Rattle.aa_profile_data.specs.Request.{ForFile}
use Rattle.aa_profile_data.specs.declared.profile.Rule.{Rule}
use Rattle.aa_profile_data.specs.declared.profile.Rule.TheVariants.{Cap, File, Net, Other}
use Rattle.aa_explain_paths.specs.Laws.{HavePatternsAmong, VerdictsAreAlike, VerdictsOfAllPaths}

module _ (letters : ℕ) (owned : Bool) (path other : List ℕ) where
  -- a rule applies to both paths, or to neither
  abbrev AppliesAlike : Rule → Type 0
  AppliesAlike rule = applies (ForFile letters owned path) rule ≡ applies (ForFile letters owned other) rule

  applies-alike : (patterns : List (List ℕ)) (rules : List Rule) → HavePatternsAmong rules patterns → AreMatchedAlike patterns path other
      → (rule : Rule) → Contains rules rule → AppliesAlike rule
  applies-alike patterns rules among alike (File rule) at =
      let there = among rule at in
      ap (λ b. b && (not rule.owner || owned)) (alike there.0 rule.pattern there.1)
  applies-alike patterns rules among alike (Cap rule) at = refl
  applies-alike patterns rules among alike (Net rule) at = refl
  applies-alike patterns rules among alike (Other rule) at = refl

  -- rules cover the same of both
  covered-alike : (test : Rule → Bool) (rules : List Rule) (set : ℕ) → ((rule : Rule) → Contains rules rule → AppliesAlike rule)
      → with_covered (ForFile letters owned path) test set rules ≡ with_covered (ForFile letters owned other) test set rules
  covered-alike test [] set alike = refl
  covered-alike test (rule ∷ rules) set alike =
      let here : with_rule (ForFile letters owned path) test set rule ≡ with_rule (ForFile letters owned other) test set rule =
      ap (λ b. if test rule then union set (if b then common letters (covered_by rule) else 0) else set) (alike rule (Contains-first rule rules)) in
      ap (λ s. with_covered (ForFile letters owned path) test s rules) here
      ∙ covered-alike test rules (with_rule (ForFile letters owned other) test set rule) (λ r at. alike r (Contains-later rule rules r at))

  verdict-alike : (mediation : Mediation) (flag : Bool) (rules : List Rule) → ((rule : Rule) → Contains rules rule → AppliesAlike rule)
      → verdict mediation flag rules (ForFile letters owned path) ≡ verdict mediation flag rules (ForFile letters owned other)
  verdict-alike mediation flag rules alike =
      let d = covered-alike denies rules 0 alike in
      let g = covered-alike allows rules 0 alike in
      let l = covered-alike (denies_aloud flag) rules 0 alike in
      let a = covered-alike (allows_aloud flag) rules 0 alike in
      λ i. (
      if not (d i == 0) then logged Deny Denied (union (l i) (without letters (union (d i) (without (g i) (d i))))) else
      if not (without letters (union (d i) (without (g i) (d i))) == 0) then when_missing mediation (without letters (union (d i) (without (g i) (d i)))) else
      logged Allow Audit (a i)
      )

pub verdicts-alike : VerdictsAreAlike
verdicts-alike patterns rules path other among alike mediation flag letters owned =
    verdict-alike letters owned path other mediation flag rules (applies-alike letters owned path other patterns rules among alike)

pub verdicts-all : VerdictsOfAllPaths
verdicts-all patterns classes paths stand path bytes wanted =
    let there = stand path bytes wanted in
    (there.0, there.1, there.2, λ rules among. verdicts-alike patterns rules path there.0 among there.2.alike)
