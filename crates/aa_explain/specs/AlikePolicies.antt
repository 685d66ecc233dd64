-- Policy sets that are alike: what has a full name is confined alike in both, and attaches by the same patterns.
use Rattle.std.specs.Prelude.{◌≡◌, ℕ, true, List, Option, None, Some}
use Rattle.std.specs.List.{All, Contains}
use Rattle.aa_decide.specs.Exec.{Asker, Base, ExecAnswer, Nowhere, Null, OnProfile, OnUnconfined, Stacked, Started, Unconfined, Under, named_asker}
use Rattle.aa_decide.specs.ExecLaws.{HaveDistinctNames}
use Rattle.aa_decide_ready.specs.Confinement.{mode_at}
use Rattle.aa_decide_ready.specs.Entries.{Loaded}
use Rattle.aa_decide_ready.specs.Ready.{audits, rules_at}
use Rattle.aa_decide_ready.specs.Visits.{attachments_at}
use Rattle.aa_decide_ready.specs.declared.entry.State.{State}
use Rattle.aa_decide_ready.specs.declared.entry.State.TheVariants.{Disabled, Modes}
use Rattle.aa_explain_diff.specs.Alike.{HaveSameTexts}
use Rattle.aa_profile_data.specs.FullNames.{FullName}
use Rattle.aa_profile_data.specs.ConflictLaws.{HasReadPattern}
use Rattle.aa_profile_data.specs.Conflicts.{agree}
use Rattle.aa_profile_data.specs.Profile.{are_distinct_children}
use Rattle.aa_profile_data.specs.SameRules.{HaveSameRules}
use Rattle.aa_profile_data.specs.declared.profile.Mode.{Mode}

-- the mode in which a profile in a state confines, or its child or hat at an index; none where it is disabled
abbrev pub mode_in : State → Option ℕ → Option Mode
mode_in Disabled child = None
mode_in (Modes modes) child = Some (mode_at modes child)

-- Two are confined alike: in one mode or both by nothing, both audited or neither, and by the same rules; and they attach by the same patterns.
pub record AreConfinedAlike (one other : Asker) : Type 0 where
  pub mode : mode_in one.entry.state one.child ≡ mode_in other.entry.state other.child
  pub audit : audits one.entry.profile one.child ≡ audits other.entry.profile other.child
  pub attachments : HaveSameTexts (attachments_at one.entry.profile one.child) (attachments_at other.entry.profile other.child)
  pub rules : HaveSameRules (rules_at one.entry.profile one.child) (rules_at other.entry.profile other.child)

-- either both exist, and are confined alike, or neither exists
abbrev pub AreThereAlike : Option Asker → Option Asker → Type 0
AreThereAlike None None = Unit {0}
AreThereAlike (Some one) (Some other) = AreConfinedAlike one other
AreThereAlike None (Some other) = ⊥
AreThereAlike (Some one) None = ⊥

-- no two entries have one name, and no two children or hats of an entry
abbrev pub HaveNamesApart : List Loaded → Type 0
HaveNamesApart entries =
    HaveDistinctNames entries × ((entry : Loaded) → Contains entries entry → are_distinct_children entry.profile.children ≡ true)

-- Two policy sets are alike: for each full name either both have a profile, child or hat, and these are confined alike, or neither has one.
pub record AreAlikePolicies (entries others : List Loaded) : Type 0 where
  pub names : HaveNamesApart entries
  pub other_names : HaveNamesApart others
  pub alike : (name : FullName) → AreThereAlike (named_asker entries name) (named_asker others name)

-- the rules of each profile, child and hat agree, and their patterns read, as those of files that were read do
abbrev pub HaveReadRules : List Loaded → Type 0
HaveReadRules entries =
    (who : Asker) → Contains entries who.entry
    → (agree (rules_at who.entry.profile who.child) ≡ true) × All HasReadPattern (rules_at who.entry.profile who.child)

-- each of two has the same full name, in a policy set of its own
pub record HaveOneName (entries others : List Loaded) (one other : Asker) : Type 0 where
  pub name : FullName
  pub here : named_asker entries name ≡ Some one
  pub there : named_asker others name ≡ Some other

-- both askers have the same full name, or both are no one in particular
abbrev pub AskAlike : List Loaded → List Loaded → Option Asker → Option Asker → Type 0
AskAlike entries others None None = Unit {0}
AskAlike entries others (Some one) (Some other) = HaveOneName entries others one other
AskAlike entries others None (Some other) = ⊥
AskAlike entries others (Some one) None = ⊥

-- two bases of stacks have the same full name, or both are no profile
abbrev pub AreBasesAlike : List Loaded → List Loaded → Base → Base → Type 0
AreBasesAlike entries others (OnProfile entry child) (OnProfile other place) =
    HaveOneName entries others (record { entry = entry; child = child }) (record { entry = other; child = place })
AreBasesAlike entries others OnUnconfined OnUnconfined = Unit {0}
AreBasesAlike entries others (OnProfile entry child) OnUnconfined = ⊥
AreBasesAlike entries others OnUnconfined (OnProfile other place) = ⊥

-- two bases are alike, or there is neither
abbrev pub StandAlike : List Loaded → List Loaded → Option Base → Option Base → Type 0
StandAlike entries others None None = Unit {0}
StandAlike entries others (Some base) (Some other) = AreBasesAlike entries others base other
StandAlike entries others None (Some other) = ⊥
StandAlike entries others (Some base) None = ⊥

-- a program runs under profiles of the same full name, or under no profile in both, or under stacks whose bases are alike and whose other members
-- have the same full names, or isn't started in either
abbrev pub RunAlike : List Loaded → List Loaded → Started → Started → Type 0
RunAlike entries others (Under entry child) (Under other place) =
    HaveOneName entries others (record { entry = entry; child = child }) (record { entry = other; child = place })
RunAlike entries others Unconfined Unconfined = Unit {0}
RunAlike entries others (Stacked base members) (Stacked other names) = StandAlike entries others base other × (members ≡ names)
RunAlike entries others Null Null = Unit {0}
RunAlike entries others Nowhere Nowhere = Unit {0}
RunAlike entries others _ _ = ⊥

-- two answers to the start of a program are equal: the verdict with the tag of its audit line, under which profile it runs by full name, and whether
-- its environment is scrubbed
pub record StartAlike (entries others : List Loaded) (one other : ExecAnswer) : Type 0 where
  pub verdict : one.verdict ≡ other.verdict
  pub to : RunAlike entries others one.to other.to
  pub scrub : one.scrub ≡ other.scrub
