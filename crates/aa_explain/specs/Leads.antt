-- Where the rules of the asker lead the program of a path (docs/policy.md, "Exec and attachment").
use Rattle.std.specs.Prelude.{ℕ, Bool, List, Option, None, option_and_then}
use Rattle.std.specs.Option.{option_map}
use Rattle.aa_decide.specs.Exec.{Asker, Started, led, led_by_word}
use Rattle.aa_decide.specs.SeenExec.{IsDestination, seen_to}
use Rattle.aa_decide_rules.specs.declared.exec_verdict.ExecTo.{ExecTo}
use Rattle.aa_decide_rules.specs.Choices.{choice}
use Rattle.aa_decide_ready.specs.Confinement.{By, ByName, Confinement, Unconfined, in_state}
use Rattle.aa_decide_ready.specs.Entries.{Loaded}
use Rattle.aa_profile_data.specs.ExecWords.{row}
use Rattle.aa_profile_data.specs.declared.profile.Transition.{Transition}
use Rattle.aa_explain_rules.specs.Leading.{chosen_transition}
use Rattle.aa_explain.specs.declared.leads.Lead.{Lead as CodeLead}

-- a transition, where its word leads, if that exists, and where its fallback leads, if it has one and that exists
pub record Lead : Type 0 where
  pub transition : Transition
  pub to : Option Started
  pub fallback : Option Started

-- where a transition leads the asker
abbrev pub lead_by : List ℕ → List Loaded → Asker → Transition → Lead
lead_by path entries asker transition = record {
  transition = transition;
  to = led_by_word path entries asker transition;
  fallback = option_and_then (led path transition.target entries asker) (row transition.word).fallback;
}

-- by what confines the asker: where the transition leads that the rules give together; where nothing confines it, or a name alone, no rule leads
abbrev pub confined_lead : Bool → List ℕ → List Loaded → Asker → Confinement → Option Lead
confined_lead owned path entries asker Unconfined = None
confined_lead owned path entries asker ByName = None
confined_lead owned path entries asker (By section mediation) =
    option_map (lead_by path entries asker) (chosen_transition (choice section.audit owned path section.rules))

-- where the rules of the asker lead, if they lead somewhere
abbrev pub lead_of : Bool → List ℕ → List Loaded → Asker → Option Lead
lead_of owned path entries asker = confined_lead owned path entries asker (in_state asker.entry.profile asker.entry.state asker.child)

-- what the code found, as slots have it
abbrev pub seen_destination : List (Option Loaded) → Option ExecTo → Option Started
seen_destination slots found = option_and_then (seen_to slots) found

-- what the code found, if anything, is in a filled slot
abbrev pub IsThere : List (Option Loaded) → Option ExecTo → Type 0
IsThere slots found = IsDestination slots found (seen_destination slots found)

-- a lead of the code, as slots have it
abbrev pub seen_lead : List (Option Loaded) → CodeLead → Lead
seen_lead slots found = record {
  transition = found.transition.now;
  to = seen_destination slots found.to;
  fallback = seen_destination slots found.fallback;
}

-- the destinations that a lead of the code holds are in filled slots
abbrev pub LeadsThere : List (Option Loaded) → CodeLead → Type 0
LeadsThere slots found = IsThere slots found.to × IsThere slots found.fallback
