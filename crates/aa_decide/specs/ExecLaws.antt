-- Definitions for the laws on attachment and on the start of programs.
use Rattle.std.specs.Prelude.{◌≡◌, ◌<◌, ℕ, Bool, true, false, List, Some}
use Rattle.std.specs.List.{Contains}
use Rattle.std.specs.Str.{bytes_eq}
use Rattle.aa_decide_rules.specs.ExecRules.{Denying, said_of}
use Rattle.aa_profile_data.specs.declared.profile.Rule.{Rule}
use Rattle.aa_decide.specs.Attachment.{entry_rank}
use Rattle.aa_decide_ready.specs.Named.{have_distinct_names}
use Rattle.aa_decide.specs.Exec.{Base, OnProfile, OnUnconfined}
use Rattle.aa_decide_ready.specs.Entries.{Loaded, is_in_force}
use Rattle.aa_decide_ready.specs.Sections.{Section}

-- no two entries have one name
abbrev pub HaveDistinctNames : List Loaded → Type 0
HaveDistinctNames entries = have_distinct_names entries ≡ true

-- two lists have the same entries, in whatever order
abbrev pub HaveSameEntries : List Loaded → List Loaded → Type 0
HaveSameEntries entries others =
    ((entry : Loaded) → Contains entries entry → Contains others entry) × ((entry : Loaded) → Contains others entry → Contains entries entry)

-- two lists differ in the order of their entries alone, and no two entries have one name
abbrev pub DifferInOrder : List Loaded → List Loaded → Type 0
DifferInOrder entries others = HaveDistinctNames entries × HaveDistinctNames others × HaveSameEntries entries others

-- each entry of another name has a lower rank on a path
abbrev pub RanksAboveOthers : List ℕ → List Loaded → Loaded → Type 0
RanksAboveOthers path entries entry =
    (other : Loaded) → Contains entries other → bytes_eq other.profile.name entry.profile.name ≡ false → entry_rank path other < entry_rank path entry

-- an entry fits a path best: it is one of these entries, its rank is above 0, and all others have lower ranks
abbrev pub FitsBest : List ℕ → List Loaded → Loaded → Type 0
FitsBest path entries entry = Contains entries entry × (0 < entry_rank path entry) × RanksAboveOthers path entries entry

-- some rule of a profile, or of a child or hat, denies the start of the program of a path
abbrev pub SomeRuleDenies : Bool → List ℕ → Section → Type 0
SomeRuleDenies owned path section =
    (rule : Rule) × (audited : Bool) × Contains section.rules rule × (said_of section.audit owned path rule ≡ Some (Denying audited))

-- the base of a stack is in force: a profile that isn't disabled, or no profile
abbrev pub IsBaseInForce : Base → Type 0
IsBaseInForce (OnProfile entry child) = is_in_force entry.state ≡ true
IsBaseInForce OnUnconfined = Unit {0}
