-- Starts that are told so far.
use Rattle.std.specs.Prelude.{◌≡◌, ◌⊎◌, ℕ, Bool, true, List, Contains, Option, Some}
use Rattle.std.specs.List.{list_any}
use Rattle.aa_decide.specs.Exec.{Asker}
use Rattle.aa_decide.specs.SeenExec.{seen_to}
use Rattle.aa_decide_rules.specs.declared.exec_verdict.ExecTo.{ExecTo}
use Rattle.aa_decide_ready.specs.Entries.{Loaded}
use Rattle.aa_decide_ready.specs.Slots.{filled}
use Rattle.aa_glob_syntax.specs.Matching.{matches}
use Rattle.aa_glob_syntax.specs.Reading.{items_of}
use Rattle.aa_explain_reach.specs.Patterns.{every_pattern}
use Rattle.aa_explain_reach.specs.Places.{is_somewhere, leads_somewhere, same_to}
use Rattle.aa_explain_reach.specs.Starts.{HasStart, LeadApart, place_to_go}
use Rattle.aa_explain_reach.specs.declared.start.Start.{Start}

-- a path is absolute
abbrev pub is_absolute : List ℕ → Bool
is_absolute path = matches (items_of every_pattern) path

-- one of some starts goes to this place
abbrev pub has_start : ExecTo → List Start → Bool
has_start to starts = list_any (λ start. same_to start.to to) starts

-- a start leads where it tells, and somewhere
abbrev pub Leads : List (Option Loaded) → Option Asker → Start → Type 0
Leads slots asker start =
    (seen_to slots start.to ≡ Some (place_to_go (filled slots) asker start.owned start.path.items))
    × (is_somewhere (place_to_go (filled slots) asker start.owned start.path.items) ≡ true)

-- this start was added: it goes to the place, and somewhere
pub record IsPut (to : ExecTo) (owned : Bool) (path : List ℕ) (start : Start) : Type 0 where
  pub place : start.to ≡ to
  pub owner : start.owned ≡ owned
  pub own_path : start.path.items ≡ path
  pub somewhere : leads_somewhere to ≡ true

-- The start of a program that goes to a place was added to others, if it leads somewhere, and none of these goes there.
pub record PutsPlace (to : ExecTo) (owned : Bool) (path : List ℕ) (old new : List Start) : Type 0 where
  pub kept : (start : Start) → Contains old start → Contains new start
  pub fresh : (start : Start) → Contains new start → Contains old start ⊎ IsPut to owned path start
  pub told : leads_somewhere to ≡ true → (start : Start) × Contains new start × ((slots : List (Option Loaded)) → seen_to slots start.to ≡ seen_to slots to)
  pub apart : LeadApart old → LeadApart new

-- one of some starts goes where the program of a path does, if it is started
abbrev pub IsTold : List (Option Loaded) → Option Asker → Bool → List ℕ → List Start → Type 0
IsTold slots asker owned path starts =
    is_somewhere (place_to_go (filled slots) asker owned path) ≡ true
    → (start : Start) × Contains starts start × (seen_to slots start.to ≡ Some (place_to_go (filled slots) asker owned path))

-- The start of the program of a path was added to others, if it leads somewhere and none of these goes there: they
-- stay, and each that is new is of this path.
pub record AddsStart (slots : List (Option Loaded)) (asker : Option Asker) (owned : Bool) (path : List ℕ) (old new : List Start) : Type 0 where
  pub kept : (start : Start) → Contains old start → Contains new start
  pub fresh : (start : Start) → Contains new start → Contains old start ⊎ ((start.path.items ≡ path) × Leads slots asker start)
  pub told : IsTold slots asker owned path new
  pub apart : LeadApart old → LeadApart new

-- the same of both owners, if the path is absolute
pub record AddsStarts (slots : List (Option Loaded)) (asker : Option Asker) (path : List ℕ) (old new : List Start) : Type 0 where
  pub kept : (start : Start) → Contains old start → Contains new start
  pub fresh : (start : Start) → Contains new start
      → Contains old start ⊎ ((start.path.items ≡ path) × Leads slots asker start × (is_absolute path ≡ true))
  pub told : is_absolute path ≡ true → (owned : Bool) → IsTold slots asker owned path new
  pub apart : LeadApart old → LeadApart new

-- starts by these paths: each is of one that is absolute, and leads where it tells; and of each path that is absolute
-- each place to go is told, by one whose path is no longer
pub record AreStartsBy (slots : List (Option Loaded)) (asker : Option Asker) (paths : List (List ℕ)) (starts : List Start) : Type 0 where
  pub each : (start : Start) → Contains starts start
      → Contains paths start.path.items × Leads slots asker start × (is_absolute start.path.items ≡ true)
  pub told : (path : List ℕ) → Contains paths path → is_absolute path ≡ true
      → (owned : Bool) → is_somewhere (place_to_go (filled slots) asker owned path) ≡ true
      → HasStart slots starts path (place_to_go (filled slots) asker owned path)
  pub apart : LeadApart starts
