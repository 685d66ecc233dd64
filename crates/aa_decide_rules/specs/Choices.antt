-- What rules say together of the start of a program (docs/policy.md, "Exec and attachment").
use Rattle.std.specs.Prelude.{◌≡◌, ℕ, Bool, true, false, ◌&&◌, if◌then◌else◌, List, [], ◌∷◌, Option, None, Some}
use Rattle.std.specs.List.{list_any}
use Rattle.std.specs.List.Sorted.{IsStrictlyIncreasing}
use Rattle.aa_profile_data.specs.Ranks.{same_rank}
use Rattle.aa_profile_data.specs.declared.profile.Rank.{Rank}
use Rattle.aa_profile_data.specs.declared.profile.Rank.TheVariants.{Last, Loose, Plain}
use Rattle.aa_profile_data.specs.declared.profile.Rule.{Rule}
use Rattle.aa_profile_data.specs.declared.profile.Transition.{Transition}
use Rattle.aa_profile_data.specs.Matching.{AreMatchingRules}
use Rattle.aa_decide_rules.specs.ExecRules.{Denying, ExecRule, Leading, exec_rules}

-- What rules say together: that the start is denied; nothing; or where it leads.
pub data Choice : Type 0 where
  Denied : (audited : Bool) → Choice
  Missing : Choice
  Leads : (transition : Transition) (audited : Bool) → Choice

abbrev pub denies : ExecRule → Bool
denies (Denying audited) = true
denies (Leading transition rank audited) = false

abbrev pub denies_aloud : ExecRule → Bool
denies_aloud (Denying audited) = audited
denies_aloud (Leading transition rank audited) = false

-- A rule leads somewhere with this rank. The rules that do so with the highest rank decide where to go.
abbrev pub dominates : Rank → ExecRule → Bool
dominates rank (Denying audited) = false
dominates rank (Leading transition own audited) = same_rank own rank

-- the highest rank with which some rule leads somewhere, and the last rank where none does
abbrev pub highest : List ExecRule → Rank
highest rules = if list_any (dominates Plain) rules then Plain else if list_any (dominates Loose) rules then Loose else Last

abbrev pub leads_aloud : Rank → ExecRule → Bool
leads_aloud rank (Denying audited) = false
leads_aloud rank (Leading transition own audited) = audited && same_rank own rank

-- where the first rule of this rank leads
abbrev pub first_lead : Rank → List ExecRule → Option Transition
first_lead rank [] = None
first_lead rank (Denying audited ∷ rules) = first_lead rank rules
first_lead rank (Leading transition own audited ∷ rules) = if same_rank own rank then Some transition else first_lead rank rules

-- Where rules lead of which none denies: where the first rule that dominates leads. In rules that agree all dominating rules lead to one place
-- (LeadOneWay).
abbrev pub chosen : Rank → List ExecRule → Choice
chosen rank rules = elim (first_lead rank rules) [
  | None ↦ Missing
  | Some first ↦ Leads first (list_any (leads_aloud rank) rules)
]

-- A rule that denies decides before all other rules.
abbrev pub choice_of : List ExecRule → Choice
choice_of rules = if list_any denies rules then Denied (list_any denies_aloud rules) else chosen (highest rules) rules

-- what the rules of a profile say together of the start of the program of a path
abbrev pub choice : Bool → Bool → List ℕ → List Rule → Choice
choice flag owned path rules = choice_of (exec_rules flag owned path rules)

-- The rules of a profile say this together, wherever these are the indexes of the rules that match the path.
abbrev pub IsChoiceFor : Bool → Bool → List Rule → List ℕ → Choice → Type 0
IsChoiceFor flag owned rules places found =
    (path : List ℕ) → AreMatchingRules rules path places → IsStrictlyIncreasing places → found ≡ choice flag owned path rules
