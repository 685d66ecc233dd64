-- Under which profile the program of a path runs when it is started (apparmor.d(5), "Execute Rules"; docs/policy.md, "Exec and attachment").
use Rattle.std.specs.Prelude.{ℕ, Bool, false, ◌&&◌, if◌then◌else◌, List, find, Option, None, Some, is_some, option_and_then}
use Rattle.std.specs.List.{list_all}
use Rattle.std.specs.Option.{option_map}
use Rattle.std.specs.Str.{bytes_eq}
use Rattle.aa_profile_data.specs.Access.{EXEC}
use Rattle.aa_profile_data.specs.ExecWords.{row}
use Rattle.aa_profile_data.specs.Stacks.{Stack, stack_of}
use Rattle.aa_profile_data.specs.declared.exec_word.Destination.{Destination}
use Rattle.aa_profile_data.specs.declared.exec_word.Destination.TheVariants as to
use Rattle.aa_profile_data.specs.declared.exec_word.ExecWord.{ExecWord}
use Rattle.aa_decide_rules.specs.Choices.{Choice, Denied as DeniedByRule, Leads, Missing, choice}
use Rattle.aa_profile_data.specs.FullNames.{FullName, full_name}
use Rattle.aa_profile_data.specs.Profile.{child_place}
use Rattle.aa_profile_data.specs.declared.profile.Profile.{Profile}
use Rattle.aa_profile_data.specs.declared.profile.Transition.{Transition}
use Rattle.aa_decide.specs.Attachment.{attached, attached_child}
use Rattle.aa_decide_rules.specs.declared.judgement.Mediation.{Mediation}
use Rattle.aa_decide_rules.specs.declared.judgement.Mediation.TheVariants.{Complaining, Enforcing}
use Rattle.aa_decide_ready.specs.Confinement.{By, ByName, Confinement, Unconfined as NotConfined, in_state}
use Rattle.aa_decide_ready.specs.Entries.{Loaded, is_in_force}
use Rattle.aa_decide_ready.specs.Named.{entry_named}
use Rattle.aa_decide_rules.specs.declared.verdict.Answer.{Answer}
use Rattle.aa_decide_rules.specs.declared.verdict.Answer.TheVariants.{Allow, Complain, Deny, Refuse}
use Rattle.aa_decide_rules.specs.declared.verdict.Tag.{Tag}
use Rattle.aa_decide_rules.specs.declared.verdict.Tag.TheVariants.{Allowed, Audit, Denied}
use Rattle.aa_decide_rules.specs.declared.verdict.Verdict.{Verdict}

-- the asker of a loaded profile: the profile itself, or its child or hat at an index
pub record Asker : Type 0 where
  pub entry : Loaded
  pub child : Option ℕ

-- an entry's profile, or its child or hat of a name, if there is one
abbrev pub entry_asker : Option (List ℕ) → Loaded → Option Asker
entry_asker None entry = Some (record { entry = entry; child = None })
entry_asker (Some name) entry = option_map (λ place. record { entry = entry; child = Some place }) (child_place name entry.profile.children)

-- the profile, child or hat of a full name, in whatever state it is, if there is one
abbrev pub named_asker : List Loaded → FullName → Option Asker
named_asker entries name = option_and_then (entry_asker name.child) (entry_named name.profile entries)

-- The base of a stack: a profile in force, or its child or hat at an index; or no profile.
pub data Base : Type 0 where
  OnProfile : (entry : Loaded) (child : Option ℕ) → Base
  OnUnconfined : Base

-- Under which profile the program runs: a profile in force, or its child or hat at an index; no profile; a stack of profiles in force with their
-- full names, on a base, if it has one; or it is let through in complain mode alone; or it isn't started.
pub data Started : Type 0 where
  Under : (entry : Loaded) (child : Option ℕ) → Started
  Unconfined : Started
  Stacked : (base : Option Base) (members : List (List ℕ)) → Started
  Null : Started
  Nowhere : Started

-- under the asker
abbrev pub under : Asker → Started
under asker = Under asker.entry asker.child

-- the answer: the verdict with the tag of its audit line, under which profile the program runs, and whether its environment is scrubbed
pub record ExecAnswer : Type 0 where
  pub verdict : Verdict
  pub to : Started
  pub scrub : Bool

-- a verdict on the start of a program; its mask is always `x`
abbrev pub exec_verdict : Answer → Option Tag → Verdict
exec_verdict answer tag = record { answer = answer; tag = tag; mask = record { 0 = EXEC } }

-- an answer without a destination
abbrev pub stopped : Answer → Option Tag → ExecAnswer
stopped answer tag = record { verdict = exec_verdict answer tag; to = Nowhere; scrub = false }

-- a tag, where it is audited
abbrev pub tag_if : Bool → Tag → Option Tag
tag_if audited tag = if audited then Some tag else None

-- a deny rule applies
abbrev pub denied : Bool → ExecAnswer
denied audited = stopped Deny (tag_if audited Denied)

-- no rule gives a destination
abbrev pub missing : Mediation → ExecAnswer
missing Enforcing = stopped Refuse (Some Denied)
missing Complaining = record { verdict = exec_verdict Complain (Some Allowed); to = Null; scrub = false }

-- the program runs
abbrev pub started : Bool → Started → Bool → ExecAnswer
started audited to scrub = record { verdict = exec_verdict Allow (tag_if audited Audit); to = to; scrub = scrub }

-- a profile is in force and has this name
abbrev pub is_named_in_force : List ℕ → Loaded → Bool
is_named_in_force name entry = is_in_force entry.state && bytes_eq entry.profile.name name

-- the profile in force of this name
abbrev pub named_in_force : List ℕ → List Loaded → Option Loaded
named_in_force name entries = find (is_named_in_force name) entries

-- the profile, child or hat in force of a full name
abbrev pub by_full_name : List ℕ → List Loaded → Option Started
by_full_name name entries = option_map under (option_and_then (entry_asker (full_name name).child) (named_in_force (full_name name).profile entries))

-- a profile in force: the named one, or else the one that attaches to the path
abbrev pub to_profile : List ℕ → Option (List ℕ) → List Loaded → Option Started
to_profile path (Some name) entries = by_full_name name entries
to_profile path None entries = option_map (λ entry. Under entry None) (attached path entries)

-- the index of a child or hat: the named one, or else the child that attaches to the path
abbrev pub place_of_child : List ℕ → Option (List ℕ) → Profile → Option ℕ
place_of_child path (Some name) profile = child_place name profile.children
place_of_child path None profile = attached_child path profile.children

-- a child or hat of the asking profile; a child has none
abbrev pub to_child : List ℕ → Option (List ℕ) → Asker → Option Started
to_child path target asker = elim asker.child [
  | Some place ↦ None
  | None ↦ option_map (λ place. Under asker.entry (Some place)) (place_of_child path target asker.entry.profile)
]

-- where a destination leads the asker, if it exists
abbrev pub led : List ℕ → Option (List ℕ) → List Loaded → Asker → Destination → Option Started
led path target entries asker to.Profile = to_profile path target entries
led path target entries asker to.Child = to_child path target asker
led path target entries asker to.Inherit = Some (under asker)
led path target entries asker to.Unconfined = Some Unconfined

-- each full name is that of a profile, child or hat in force
abbrev pub are_in_force : List (List ℕ) → List Loaded → Bool
are_in_force names entries = list_all (λ name. is_some (by_full_name name entries)) names

-- the base of a stack where no profile attaches to the path: what the fallback of a word leads to that leads to a profile
abbrev pub fallback_base : Asker → Destination → Option Base
fallback_base asker to.Inherit = Some (OnProfile asker.entry asker.child)
fallback_base asker to.Unconfined = Some OnUnconfined
fallback_base asker to.Profile = None
fallback_base asker to.Child = None

-- the base of a stack after a word that leads to a profile: the profile that attaches to the path, or else what the fallback leads to
abbrev pub profile_base : List ℕ → List Loaded → Asker → Option Destination → Option Base
profile_base path entries asker fallback = elim (attached path entries) [
  | Some entry ↦ Some (OnProfile entry None)
  | None ↦ option_and_then (fallback_base asker) fallback
]

-- its base after a word that leads to a child: the asking profile; none where a child or a hat asks
abbrev pub asking_base : Asker → Option Base
asking_base asker = elim asker.child [
  | Some place ↦ None
  | None ↦ Some (OnProfile asker.entry None)
]

-- the base of a stack after a word, if there is one
abbrev pub base_of : List ℕ → List Loaded → Asker → Destination → Option Destination → Option Base
base_of path entries asker to.Profile fallback = profile_base path entries asker fallback
base_of path entries asker to.Child fallback = asking_base asker
base_of path entries asker to.Inherit fallback = None
base_of path entries asker to.Unconfined fallback = None

-- where a stack leads whose members are in force: if it is on a base, to its members on it, and nowhere where there is none; else to its members
-- alone
abbrev pub stacked_on : Stack → Option Base → Option Started
stacked_on stack base = if stack.on_base then option_map (λ base. Stacked (Some base) stack.members) base else Some (Stacked None stack.members)

-- where a stack leads after a word: nowhere where some member isn't in force
abbrev pub to_stack : List ℕ → List Loaded → Asker → ExecWord → Stack → Option Started
to_stack path entries asker word stack =
    if are_in_force stack.members entries then stacked_on stack (base_of path entries asker (row word).destination (row word).fallback) else None

-- the stack that a transition names, if it names one
abbrev pub named_stack : Transition → Option Stack
named_stack transition = option_and_then stack_of transition.target

-- where the word of a transition leads: to the stack that it names, or else where its destination does
abbrev pub led_by_word : List ℕ → List Loaded → Asker → Transition → Option Started
led_by_word path entries asker transition = elim (named_stack transition) [
  | Some stack ↦ to_stack path entries asker transition.word stack
  | None ↦ led path transition.target entries asker (row transition.word).destination
]

-- where a transition leads: where its word does, or else where its fallback does
abbrev pub led_by : List ℕ → List Loaded → Asker → Transition → Option Started
led_by path entries asker transition = elim (led_by_word path entries asker transition) [
  | Some to ↦ Some to
  | None ↦ option_and_then (led path transition.target entries asker) (row transition.word).fallback
]

-- a transition that is carried out; where it leads nowhere, the answer is as if no rule had given a destination
abbrev pub carried_out : List ℕ → List Loaded → Asker → Mediation → Transition → Bool → ExecAnswer
carried_out path entries asker mediation transition audited = elim (led_by path entries asker transition) [
  | None ↦ missing mediation
  | Some to ↦ started audited to (row transition.word).scrubs
]

-- by what the rules say together: a deny rule first, and then whether some rule gives a destination
abbrev pub by_choice : List ℕ → List Loaded → Asker → Mediation → Choice → ExecAnswer
by_choice path entries asker mediation (DeniedByRule audited) = denied audited
by_choice path entries asker mediation Missing = missing mediation
by_choice path entries asker mediation (Leads transition audited) = carried_out path entries asker mediation transition audited

-- nothing confines the asker: the program runs under the profile that attaches to its path, or else under none
abbrev pub unconfined_start : List ℕ → List Loaded → ExecAnswer
unconfined_start path entries = elim (attached path entries) [
  | None ↦ started false Unconfined false
  | Some entry ↦ started false (Under entry None) false
]

-- the asker gives its name alone: the program runs under the profile that attaches to its path, or else under the asker
abbrev pub own_start : List ℕ → List Loaded → Asker → ExecAnswer
own_start path entries asker = elim (attached path entries) [
  | None ↦ started false (under asker) false
  | Some entry ↦ started false (Under entry None) false
]

-- by what confines the asker
abbrev pub confined_start : Bool → List ℕ → List Loaded → Asker → Confinement → ExecAnswer
confined_start owned path entries asker NotConfined = unconfined_start path entries
confined_start owned path entries asker ByName = own_start path entries asker
confined_start owned path entries asker (By section mediation) = by_choice path entries asker mediation (choice section.audit owned path section.rules)

-- Under which profile the program of a path runs, by the entries and the asker; nothing confines an asker that is no one in particular.
abbrev pub exec_answer : List Loaded → Option Asker → Bool → List ℕ → ExecAnswer
exec_answer entries None owned path = unconfined_start path entries
exec_answer entries (Some asker) owned path =
    confined_start owned path entries asker (in_state asker.entry.profile asker.entry.state asker.child)
