-- Who starts programs where others run.
use Rattle.std.specs.Prelude.{ℕ, List, [], ◌∷◌, ◌++◌, Option, None, Some, option_and_then}
use Rattle.std.specs.Option.{option_map}
use Rattle.aa_decide.specs.Exec.{Asker, Base, Nowhere, Null, OnProfile, OnUnconfined, Stacked, Started, Unconfined, Under, entry_asker, named_in_force}
use Rattle.aa_decide_rules.specs.declared.exec_verdict.ExecTo.{ExecTo}
use Rattle.aa_decide_rules.specs.declared.exec_verdict.ExecTo.TheVariants as to
use Rattle.aa_decide_rules.specs.declared.exec_verdict.StackBase.{StackBase}
use Rattle.aa_decide_rules.specs.declared.exec_verdict.StackBase.TheVariants as base
use Rattle.aa_decide_ready.specs.Entries.{Loaded}
use Rattle.aa_decide_ready.specs.Slots.{entry_at, filled}
use Rattle.aa_profile_data.specs.FullNames.{full_name}
use Rattle.aa_profile_data.specs.Stacks.{parts_of}

-- someone who is there, alone
abbrev pub alone : Option Asker → List (Option Asker)
alone None = []
alone (Some asker) = Some asker ∷ []

-- by what a stack is on: a profile, child or hat, or no one in particular
abbrev pub base_starters : Option Base → List (Option Asker)
base_starters None = []
base_starters (Some (OnProfile entry child)) = Some (record { entry = entry; child = child }) ∷ []
base_starters (Some OnUnconfined) = None ∷ []

-- who has a full name, of those in force
abbrev pub member_asker : List Loaded → List ℕ → Option Asker
member_asker entries name = option_and_then (entry_asker (full_name name).child) (named_in_force (full_name name).profile entries)

-- each of some full names
abbrev pub member_starters : List Loaded → List (List ℕ) → List (Option Asker)
member_starters entries [] = []
member_starters entries (name ∷ names) = alone (member_asker entries name) ++ member_starters entries names

-- By whom programs are started that are started from where one runs: the profile, child or hat that it runs under; no
-- one in particular, where it runs under no profile; under a stack each in it, by itself. Where it is let through in
-- complain mode alone, nothing is gone on from.
abbrev pub starters : List Loaded → Started → List (Option Asker)
starters entries (Under entry child) = Some (record { entry = entry; child = child }) ∷ []
starters entries Unconfined = None ∷ []
starters entries (Stacked base members) = base_starters base ++ member_starters entries members
starters entries Null = []
starters entries Nowhere = []

-- the same by slots
abbrev pub slot_starters : List (Option Loaded) → ℕ → Option ℕ → List (Option Asker)
slot_starters slots slot child = alone (option_map (λ entry. record { entry = entry; child = child }) (entry_at slots slot))

abbrev pub slot_base_starters : List (Option Loaded) → StackBase → List (Option Asker)
slot_base_starters slots (base.Profile slot child) = slot_starters slots slot child
slot_base_starters slots base.Unconfined = None ∷ []

abbrev pub stand_starters : List (Option Loaded) → Option StackBase → List (Option Asker)
stand_starters slots None = []
stand_starters slots (Some base) = slot_base_starters slots base

abbrev pub starters_at : List (Option Loaded) → ExecTo → List (Option Asker)
starters_at slots (to.Profile slot child) = slot_starters slots slot child
starters_at slots to.Unconfined = None ∷ []
starters_at slots (to.Stack base members) = stand_starters slots base ++ member_starters (filled slots) (parts_of members.now)
starters_at slots to.Null = []
starters_at slots to.Nowhere = []
