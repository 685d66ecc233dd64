-- What rules say of a path is said by those that match it.
use Rattle.std.proofs.Common.{◌≡◌, ℕ, Bool, true, false, not, ◌&&◌, ◌||◌, ◌==◌, if◌then◌else◌, List, [], ◌∷◌, refl, sym, ◌∙◌, ap}
use Rattle.std.specs.Int.Bits.{or_zero_r}
use Rattle.std.specs.List.{filter}
use Rattle.std.specs.Prelude.{Contains, None}
use Rattle.aa_decide_rules.specs.declared.verdict.Answer.TheVariants.{Allow, Deny}
use Rattle.aa_decide_rules.specs.declared.verdict.Tag.TheVariants.{Audit, Denied}
use Rattle.aa_decide_rules.proofs.SaidLemmas.{exec-before, said-before}
use Rattle.aa_decide_rules.specs.Choices.{choice, choice_of}
use Rattle.aa_decide_rules.specs.ExecRules.{exec_rules, said_by, said_of}
use Rattle.aa_decide_rules.specs.Verdict.{allows, allows_aloud, covered_by_file, covers, denies, denies_aloud, logged, verdict, when_missing, with_covered, with_rule}
use Rattle.aa_decide_rules.specs.declared.judgement.Mediation.{Mediation}
use Rattle.aa_glob_nfa.proofs.ListLemmas.{Contains-first, Contains-later}
use Rattle.aa_profile_data.specs.Access.{common, union, without}
use Rattle.aa_profile_data.specs.Request.{ForFile}
use Rattle.aa_profile_data.specs.Matching.{is_matching}
use Rattle.aa_profile_data.specs.declared.profile.Rule.{Rule}
use Rattle.aa_profile_data.specs.declared.profile.Rule.TheVariants.{Cap, File, Net, Other}

one-side : (n : ℕ) (b : Bool) → (if b then n else n) ≡ n
one-side n true = refl
one-side n false = refl

module _ (letters : ℕ) (owned : Bool) (path : List ℕ) where
  -- a rule that doesn't match covers nothing
  covers-nothing : (rule : Rule) → is_matching path rule ≡ false → covers (ForFile letters owned path) rule ≡ 0
  covers-nothing (File rule) is = ap (λ b. if b && (not rule.owner || owned) then common letters (covered_by_file rule) else 0) is
  covers-nothing (Cap rule) is = refl
  covers-nothing (Net rule) is = refl
  covers-nothing (Other rule) is = refl

  adds-nothing : (test : Rule → Bool) (set : ℕ) (rule : Rule) → is_matching path rule ≡ false → with_rule (ForFile letters owned path) test set rule ≡ set
  adds-nothing test set rule is =
      ap (λ n. if test rule then union set n else set) (covers-nothing rule is) ∙ ap (λ n. if test rule then n else set) (or_zero_r set) ∙ one-side set (test rule)

  covered-matching : (test : Rule → Bool) (rules : List Rule) (set : ℕ)
      → with_covered (ForFile letters owned path) test set (filter (is_matching path) rules) ≡ with_covered (ForFile letters owned path) test set rules
  covered-matching test [] set = refl
  covered-matching test (rule ∷ rules) set = by (is_matching path rule) refl (covered-matching test rules)
    where
      by : (b : Bool) → is_matching path rule ≡ b
          → ((s : ℕ) → with_covered (ForFile letters owned path) test s (filter (is_matching path) rules) ≡ with_covered (ForFile letters owned path) test s rules)
          → with_covered (ForFile letters owned path) test set (filter (is_matching path) (rule ∷ rules)) ≡ with_covered (ForFile letters owned path) test set (rule ∷ rules)
      by true is later = rw is (later (with_rule (ForFile letters owned path) test set rule))
      by false is later =
          rw is (later set ∙ ap (λ s. with_covered (ForFile letters owned path) test s rules) (sym (adds-nothing test set rule is)))

  pub verdict-matching : (mediation : Mediation) (flag : Bool) (rules : List Rule)
      → verdict mediation flag (filter (is_matching path) rules) (ForFile letters owned path) ≡ verdict mediation flag rules (ForFile letters owned path)
  verdict-matching mediation flag rules =
      let d = covered-matching denies rules 0 in
      let g = covered-matching allows rules 0 in
      let l = covered-matching (denies_aloud flag) rules 0 in
      let a = covered-matching (allows_aloud flag) rules 0 in
      λ i. (
      if not (d i == 0) then logged Deny Denied (union (l i) (without letters (union (d i) (without (g i) (d i))))) else
      if not (without letters (union (d i) (without (g i) (d i))) == 0) then when_missing mediation (without letters (union (d i) (without (g i) (d i)))) else
      logged Allow Audit (a i)
      )

module _ (flag owned : Bool) (path : List ℕ) where
  said-nothing : (rule : Rule) → is_matching path rule ≡ false → said_of flag owned path rule ≡ None
  said-nothing (File rule) is = ap (λ b. if b && (not rule.owner || owned) then said_by flag rule else None) is
  said-nothing (Cap rule) is = refl
  said-nothing (Net rule) is = refl
  said-nothing (Other rule) is = refl

  exec-matching : (rules : List Rule) → exec_rules flag owned path (filter (is_matching path) rules) ≡ exec_rules flag owned path rules
  exec-matching [] = refl
  exec-matching (rule ∷ rules) = by (is_matching path rule) refl (exec-matching rules)
    where
      by : (b : Bool) → is_matching path rule ≡ b → exec_rules flag owned path (filter (is_matching path) rules) ≡ exec_rules flag owned path rules
          → exec_rules flag owned path (filter (is_matching path) (rule ∷ rules)) ≡ exec_rules flag owned path (rule ∷ rules)
      by true is later =
          rw is (sym (exec-before flag owned path rule (filter (is_matching path) rules)) ∙ ap (said-before (said_of flag owned path rule)) later
          ∙ exec-before flag owned path rule rules)
      by false is later =
          rw is (later ∙ sym (ap (λ said. said-before said (exec_rules flag owned path rules)) (said-nothing rule is)) ∙ exec-before flag owned path rule rules)

  pub choice-matching : (rules : List Rule) → choice flag owned path (filter (is_matching path) rules) ≡ choice flag owned path rules
  choice-matching rules = ap choice_of (exec-matching rules)

-- rules match two paths alike
abbrev pub MatchAlike : List ℕ → List ℕ → Rule → Type 0
MatchAlike path other rule = is_matching path rule ≡ is_matching other rule

module _ (flag owned : Bool) (path other : List ℕ) where
  said-alike : (rule : Rule) → MatchAlike path other rule → said_of flag owned path rule ≡ said_of flag owned other rule
  said-alike (File rule) alike = ap (λ b. if b && (not rule.owner || owned) then said_by flag rule else None) alike
  said-alike (Cap rule) alike = refl
  said-alike (Net rule) alike = refl
  said-alike (Other rule) alike = refl

  exec-alike : (rules : List Rule) → ((rule : Rule) → Contains rules rule → MatchAlike path other rule) → exec_rules flag owned path rules ≡ exec_rules flag owned other rules
  exec-alike [] alike = refl
  exec-alike (rule ∷ rules) alike =
      sym (exec-before flag owned path rule rules)
      ∙ (λ i. said-before (said-alike rule (alike rule (Contains-first rule rules)) i) (exec-alike rules (λ r at. alike r (Contains-later rule rules r at)) i))
      ∙ exec-before flag owned other rule rules

  pub choice-alike : (rules : List Rule) → ((rule : Rule) → Contains rules rule → MatchAlike path other rule) → choice flag owned path rules ≡ choice flag owned other rules
  choice-alike rules alike = ap choice_of (exec-alike rules alike)
