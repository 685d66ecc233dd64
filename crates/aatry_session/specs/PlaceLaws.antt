-- Definitions for the law on places: where the profiles of a session were read, as far as it knows.
use Rattle.std.specs.Prelude.{◌≡◌, ℕ, Bool, List, IfSome, Option, None, Some, slice_get}
use Rattle.aa_decide_ready.specs.Entries.{Loaded}
use Rattle.aa_decide_ready.specs.Named.{entry_named}
use Rattle.aa_history.specs.Machine.{all_sets}
use Rattle.aa_profile_data.specs.declared.profile.Profile.{Profile}
use Rattle.aa_profile_parsing.specs.declared.language.Language.{Language}
use Rattle.aa_text_files.specs.Files.{File}
use Rattle.aatry_policy.specs.PlaceLaws.{IsReadAt}
use Rattle.aatry_policy.specs.declared.origins.Origin.{Origin}
use Rattle.aatry_session.specs.Laws.{IsInStep}
use Rattle.aatry_session.specs.Origins.{origin_among}
use Rattle.aatry_folder.specs.declared.loading.Loading.{Loading}
use Rattle.aatry_session.specs.Switching.{kept_switched}
use Rattle.aatry_session.specs.Turns.{IsLeft, IsLeftAdding, Kept, add_outcome, begun, origin_of, turn_outcome, unplaced}

-- A profile has an origin, and where its places are known still, its file has the profile at these by a language.
abbrev pub IsKnown : Language → List File → Profile → Option Origin → Type 0
IsKnown language files profile None = ⊥
IsKnown language files profile (Some origin) = IfSome origin.places (λ _. IsReadAt language files profile origin)

-- this holds of each profile of each policy set, by the changes that led to that set
abbrev pub KnowsEach : Language → List File → List (List Loaded) → List (List Origin) → Type 0
KnowsEach language files sets origins =
    (done : ℕ) (set : List Loaded) (name : List ℕ) (entry : Loaded)
    → slice_get sets done ≡ Some set
    → entry_named name set ≡ Some entry
    → IsKnown language files entry.profile (origin_among name done origins)

-- a session knows of each profile of each of its policy sets where it was read by its language
abbrev pub Knows : List File → Kept → Type 0
Knows files kept = KnowsEach kept.managed.settings.language files (all_sets kept.managed.machine) kept.origins

-- a session knows this at its beginning
abbrev pub BeginsKnowing : Type 0
BeginsKnowing = (files : List File) (language : Language) (force_complain : Bool) → Knows files (begun language force_complain)

-- any line leaves it so
abbrev pub StaysKnowing : Type 0
StaysKnowing =
    (files : List File) (base words : List ℕ) (kept : Kept) (line : List ℕ) (flag : Bool)
    → IsInStep kept
    → Knows files kept
    → Knows files (turn_outcome files base words kept line flag).kept

-- a line at which memory ran out leaves it so
abbrev pub LeavesKnowing : Type 0
LeavesKnowing =
    (files : List File) (before after : Kept) (line : List ℕ) → IsLeft files before after line → IsInStep before → Knows files before → Knows files after

-- adding the profiles of a file leaves it so
abbrev pub AddsKnowing : Type 0
AddsKnowing =
    (files : List File) (base : List ℕ) (kept : Kept) (name : List ℕ) (flag : Bool)
    → IsInStep kept
    → Knows files kept
    → Knows files (add_outcome files base kept name flag).kept

-- the change of a profile by how its file is loaded leaves it so
abbrev pub SwitchesKnowing : Type 0
SwitchesKnowing =
    (files : List File) (loading : Loading) (kept : Kept) (name : List ℕ) → IsInStep kept → Knows files kept → Knows files (kept_switched loading kept name)

-- adding where memory ran out leaves it so
abbrev pub AddLeavesKnowing : Type 0
AddLeavesKnowing =
    (files : List File) (before after : Kept) (name : List ℕ)
    → IsLeftAdding files before after name
    → IsInStep before
    → Knows files before
    → Knows files after

-- Where the places are forgotten, files that were read anew take nothing from it.
abbrev pub ForgetsForAnyFiles : Type 0
ForgetsForAnyFiles = (files others : List File) (kept : Kept) → Knows files kept → Knows others (unplaced kept)

-- what it knows of a loaded profile
abbrev pub KnowsTheLoaded : Type 0
KnowsTheLoaded =
    (files : List File) (kept : Kept) (name : List ℕ) (entry : Loaded)
    → Knows files kept
    → entry_named name kept.managed.machine.now ≡ Some entry
    → IsKnown kept.managed.settings.language files entry.profile (origin_of kept name)
