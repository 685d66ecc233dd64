-- Where rules lead that agree.
use Rattle.std.specs.Prelude.{◌≡◌, ℕ, ◌^◌, ◌<◌, Bool, true, List, Contains, Some}
use Rattle.std.specs.List.{All}
use Rattle.aa_decide_rules.specs.Choices.{dominates, first_lead, highest}
use Rattle.aa_decide_rules.specs.ExecRules.{ExecRule, Leading, exec_rules}
use Rattle.aa_profile_data.specs.ConflictLaws.{HasReadPattern}
use Rattle.aa_profile_data.specs.Conflicts.{agree}
use Rattle.aa_profile_data.specs.declared.profile.Rank.{Rank}
use Rattle.aa_profile_data.specs.declared.profile.Rule.{Rule}
use Rattle.aa_profile_data.specs.declared.profile.Transition.{Transition}

-- each rule that dominates leads where the first of them does
abbrev pub LeadOneWay : Rank → List ExecRule → Type 0
LeadOneWay highest rules =
    (first transition : Transition) (rank : Rank) (audited : Bool)
    → first_lead highest rules ≡ Some first
    → Contains rules (Leading transition rank audited) → dominates highest (Leading transition rank audited) ≡ true
    → transition ≡ first

-- of rules that apply to a path those that dominate lead one way
abbrev pub RulesLeadOneWay : Bool → Bool → List ℕ → List Rule → Type 0
RulesLeadOneWay flag owned path rules = LeadOneWay (highest (exec_rules flag owned path rules)) (exec_rules flag owned path rules)

-- Where rules agree, the rules that dominate on a path, which is a list of bytes, lead one way.
abbrev pub AgreeingRulesLeadOneWay : Type 0
AgreeingRulesLeadOneWay =
    (rules : List Rule)
    → agree rules ≡ true → All HasReadPattern rules
    → (flag owned : Bool) (path : List ℕ)
    → All (λ b. b < 2 ^ 8) path
    → RulesLeadOneWay flag owned path rules
