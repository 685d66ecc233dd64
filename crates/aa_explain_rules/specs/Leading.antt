-- Which rules decide under which profile a program runs when it is started (docs/policy.md, "The start of a program").
use Rattle.std.specs.Prelude.{ℕ, Bool, false, if◌then◌else◌, List, [], ◌∷◌, Option, None, Some, slice_get}
use Rattle.std.specs.List.{list_any}
use Rattle.aa_decide_rules.specs.Choices.{Choice, Denied, Leads, Missing, denies, dominates}
use Rattle.aa_decide_rules.specs.ExecRules.{ExecRule, said_of}
use Rattle.aa_profile_data.specs.declared.profile.Rank.{Rank}
use Rattle.aa_profile_data.specs.declared.profile.Rank.TheVariants.{Last, Loose, Plain}
use Rattle.aa_profile_data.specs.declared.profile.Rule.{Rule}
use Rattle.aa_profile_data.specs.declared.profile.Rule.TheVariants.{File}
use Rattle.aa_profile_data.specs.declared.profile.Transition.{Transition}
use Rattle.aa_explain_rules.specs.Told.{places_where}

-- what a rule says of the start of the program of a path passes a test; a rule that says nothing passes none
abbrev pub says : (ExecRule → Bool) → Bool → Bool → List ℕ → Rule → Bool
says test flag owned path rule = elim (said_of flag owned path rule) [ None ↦ false | Some said ↦ test said ]

-- Some rule passes the test. That rules are audited plays no part in the tests here.
abbrev pub some_says : (ExecRule → Bool) → Bool → List ℕ → List Rule → Bool
some_says test owned path rules = list_any (says test false owned path) rules

-- the highest rank that passes a test, and the last where no higher one does
abbrev pub highest_that : (Rank → Bool) → Rank
highest_that test = if test Plain then Plain else if test Loose then Loose else Last

-- The indexes of the rules that decide under which profile the program runs: of those that lead with the highest rank, in their order. Where a rule
-- denies, there are none.
abbrev pub leading_places : Bool → List ℕ → List Rule → List ℕ
leading_places owned path rules =
    if some_says denies owned path rules
    then []
    else places_where (says (dominates (highest_that (λ rank. some_says (dominates rank) owned path rules))) false owned path) 0 rules

-- the transition of a rule, if it has one
abbrev pub transition_of : Rule → Option Transition
transition_of (File rule) = rule.exec
transition_of _ = None

-- the transition of the rule at an index
abbrev pub transition_at : List Rule → ℕ → Option Transition
transition_at rules place = elim (slice_get rules place) [ None ↦ None | Some rule ↦ transition_of rule ]

-- the transition of the rule at the first of some indexes
abbrev pub first_transition : List Rule → List ℕ → Option Transition
first_transition rules [] = None
first_transition rules (place ∷ places) = transition_at rules place

-- where a choice leads, if it leads somewhere
abbrev pub chosen_transition : Choice → Option Transition
chosen_transition (Denied audited) = None
chosen_transition Missing = None
chosen_transition (Leads transition audited) = Some transition
