-- Starts of programs that lead elsewhere, by the policy sets of two folders.
use Rattle.std.specs.Prelude.{ℕ, Bool, false, true, List, Option, None, Some}
use Rattle.std.specs.List.{list_any}
use Rattle.aa_decide.specs.Exec.{named_asker}
use Rattle.aa_decide_ready.specs.Entries.{Loaded}
use Rattle.aa_decide_ready.specs.Slots.{filled}
use Rattle.aa_explain_changes.specs.declared.change.Change.{Change}
use Rattle.aa_explain_changes.specs.declared.change.Change.TheVariants.{Gained, Lost, Otherwise}
use Rattle.aa_explain_reach.specs.Places.{leads_somewhere}
use Rattle.aa_explain_start_changes.specs.Patterns.{change_patterns}
use Rattle.aa_explain_start_changes.specs.StartChanges.{AreStartChanges}
use Rattle.aa_explain_start_changes.specs.Starters.{Starter, Starters}
use Rattle.aa_explain_start_changes.specs.declared.changes.StartChange.{StartChange}
use Rattle.aa_explain_start_changes.specs.declared.starter.Led.{Led}
use Rattle.aa_glob_paths.specs.TooMany.{AreMoreTextsThan}
use Rattle.aa_profile_data.specs.FullNames.{full_name}
use Rattle.aatry_path_changes.specs.Others.{is_gained, is_lost}
use Rattle.aatry_path_changes.specs.declared.starts.Policies.{Policies as CodePolicies}

-- the policy sets of two folders, as slots hold them
pub record Policies : Type 0 where
  pub old : List (Option Loaded)
  pub new : List (Option Loaded)

abbrev pub seen_policies : CodePolicies → Policies
seen_policies policies = record { old = policies.old.now; new = policies.new.now }

-- who has a full name in a policy set, and in both
abbrev pub starter_named : List (Option Loaded) → List ℕ → Starter
starter_named slots name = record { slots = slots; asker = named_asker (filled slots) (full_name name) }

abbrev pub starters_named : Policies → List ℕ → Starters
starters_named policies name = record { old = starter_named policies.old name; new = starter_named policies.new name }

-- how it changes whether a program is started
abbrev pub change_by_starts : Bool → Bool → Change
change_by_starts false true = Gained
change_by_starts true false = Lost
change_by_starts false false = Otherwise
change_by_starts true true = Otherwise

abbrev pub change_of_start : Led → Led → Change
change_of_start old new = change_by_starts (leads_somewhere old.to) (leads_somewhere new.to)

-- These are all starts that lead elsewhere; or none are told, and more texts than the limit are read differently by the
-- patterns.
abbrev pub AreStartsOf : Starters → ℕ → Option (List StartChange) → Type 0
AreStartsOf starters limit None = AreMoreTextsThan (change_patterns starters) limit
AreStartsOf starters limit (Some starts) = AreStartChanges starters starts

-- a program is started now that wasn't; and one isn't any more that was
abbrev pub has_gained_start : List StartChange → Bool
has_gained_start starts = list_any (λ (s : StartChange). is_gained (change_of_start s.old s.new)) starts

abbrev pub has_lost_start : List StartChange → Bool
has_lost_start starts = list_any (λ (s : StartChange). is_lost (change_of_start s.old s.new)) starts
