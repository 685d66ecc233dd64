-- Classes of leads: which of them have the same transition.
use Rattle.std.specs.Prelude.{◌≡◌, ℕ, Bool, true, false, List, [], ◌∷◌, ◌++◌, Option, None, Some, MatchOption, is_none, map, slice_get}
use Rattle.std.specs.Borrow.{Bor}
use Rattle.aa_bytes.specs.NameMaps.{number_of}
use Rattle.aa_bytes.specs.declared.name_map.NameMap.{NameMap}
use Rattle.aa_profile_conflicts.specs.declared.classes.Classes.{Classes}
use Rattle.aa_profile_conflicts.specs.Leads.{leads}
use Rattle.aa_profile_data.specs.Conflicts.{Lead, same_transition}
use Rattle.aa_profile_data.specs.ExecWords.{row}
use Rattle.aa_profile_data.specs.declared.profile.Rank.{Rank}
use Rattle.aa_profile_data.specs.declared.profile.Rule.{Rule}
use Rattle.aa_profile_data.specs.declared.profile.Transition.{Transition}

-- transitions of the code
abbrev pub seen_transitions : List (Bor Transition) → List Transition
seen_transitions transitions = map (λ transition. transition.now) transitions

-- the transition of a class is the same as this one
abbrev pub is_class_of : List Transition → ℕ → Transition → Bool
is_class_of transitions class transition = elim (slice_get transitions class) [ None ↦ false | Some own ↦ same_transition own transition ]

-- none of some transitions is the same as this one
abbrev pub IsNew : List Transition → Transition → Type 0
IsNew transitions transition = (class : ℕ) → is_class_of transitions class transition ≡ false

-- The class of a transition, or `None` where it is not among these.
abbrev pub IsClassIn : List Transition → Transition → Option ℕ → Type 0
IsClassIn transitions transition class =
    MatchOption class (IsNew transitions transition) (λ class. is_class_of transitions class transition ≡ true)

-- the bytes of a target, none where there is none
abbrev pub target_bytes : Option (List ℕ) → List ℕ
target_bytes target = elim target [ None ↦ [] | Some name ↦ name ]

-- by what a transition is looked up: its exec word, and its target
abbrev pub key_of : Transition → List ℕ
key_of transition = (row transition.word).text ++ target_bytes transition.target

-- the key of each of some transitions has a number
abbrev pub AreKeyed : List Transition → NameMap → Type 0
AreKeyed transitions map =
    (class : ℕ) (own : Transition) → slice_get transitions class ≡ Some own → is_none (number_of map (key_of own)) ≡ false

-- no two of some transitions are the same
abbrev pub AreDifferent : List Transition → Type 0
AreDifferent transitions =
    (class another : ℕ) (one other : Transition)
    → slice_get transitions class ≡ Some one → slice_get transitions another ≡ Some other → same_transition one other ≡ true → class ≡ another

-- the transition of each lead is that of its class
abbrev pub HaveClasses : List Transition → List Lead → List ℕ → Type 0
HaveClasses transitions [] [] = Unit
HaveClasses transitions [] (class ∷ classes) = ⊥
HaveClasses transitions (lead ∷ leads) [] = ⊥
HaveClasses transitions (lead ∷ leads) (class ∷ classes) = (is_class_of transitions class lead.transition ≡ true) × HaveClasses transitions leads classes

-- Different transitions, and the class of each lead by them.
pub record AreClassesBy (leads : List Lead) (transitions : List Transition) (classes : List ℕ) : Type 0 where
  pub different : AreDifferent transitions
  pub have : HaveClasses transitions leads classes

-- these are the classes of some leads
abbrev pub AreClassesOfLeads : Classes → List Lead → Type 0
AreClassesOfLeads classes leads = AreClassesBy leads (seen_transitions classes.transitions.items) classes.classes.items

-- Classes of the leads of any rules with this rank become those of these rules and one more.
abbrev pub AddsRule : Rank → Rule → Classes → Classes → Type 0
AddsRule rank rule before after =
    (rules : List Rule) → AreClassesOfLeads before (leads rank rules) → AreClassesOfLeads after (leads rank (rules ++ rule ∷ []))
