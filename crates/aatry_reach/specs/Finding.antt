-- Under which profiles programs may run that somebody starts, of each who is asked about (docs/aatry.md, "`aatry reach`").
use Rattle.std.specs.Prelude.{◌≡◌, ℕ, ◌<◌, ◌^◌, ◌-◌, Bool, true, false, not, List, map, length, Option, None, Some}
use Rattle.std.specs.List.{All, list_any}
use Rattle.aa_bytes.specs.Texts.{is_empty}
use Rattle.aa_decide.specs.Exec.{Asker}
use Rattle.aa_decide_ready.specs.Entries.{Loaded}
use Rattle.aa_decide_ready.specs.Slots.{filled}
use Rattle.aa_explain_reach.specs.Reach.{AreReached}
use Rattle.aa_explain_reach.specs.declared.reach.Reach.{Reach}
use Rattle.aa_set_answers.specs.Askers.{asker}
use Rattle.aatry_reach.specs.declared.finding.Finding.{Finding}
use Rattle.aatry_reach.specs.declared.finding.Finding.TheVariants.{Absent, Reached}
use Rattle.aatry_reach.specs.declared.finding.Found.{Found as CodeFound}

-- a name, and what is found of it
pub record Found : Type 0 where
  pub name : List ℕ
  pub finding : Finding

abbrev pub seen_found : CodeFound → Found
seen_found found = record { name = found.name.now; finding = found.finding }

-- These are the places that are reached by the starts of somebody, each with who starts there; and all of them were gone on from, unless they are more than
-- any list has.
pub record IsReachOf (slots : List (Option Loaded)) (limit : ℕ) (who : Option Asker) (reach : Reach) : Type 0 where
  pub reached : AreReached slots who limit reach.nodes.items reach.unknown.items reach.left
  pub all : reach.left < length reach.nodes.items → reach.left ≡ 2 ^ 64 - 1

-- what is found is right, by who has the name, if somebody has
abbrev pub IsFindingOf : List (Option Loaded) → ℕ → Option (Option Asker) → Finding → Type 0
IsFindingOf slots limit None finding = finding ≡ Absent
IsFindingOf slots limit (Some who) finding = (reach : Reach) × (finding ≡ Reached reach) × IsReachOf slots limit who reach

abbrev pub IsFound : List (Option Loaded) → ℕ → Found → Type 0
IsFound slots limit found = IsFindingOf slots limit (asker (filled slots) found.name) found.finding

-- the names of whom something is found
abbrev pub found_names : List Found → List (List ℕ)
found_names found = map (λ (f : Found). f.name) found

-- what is found is of those of these names, in their order, and right
pub record AreFound (slots : List (Option Loaded)) (limit : ℕ) (names : List (List ℕ)) (found : List Found) : Type 0 where
  pub each : All (IsFound slots limit) found
  pub named : found_names found ≡ names

-- nobody has the name
abbrev pub is_absent : Finding → Bool
is_absent Absent = true
is_absent (Reached reach) = false

-- it isn't known where all lead that are reached
abbrev pub is_undecided : Finding → Bool
is_undecided Absent = false
is_undecided (Reached reach) = not (is_empty reach.unknown.items)

-- the same of one of some
abbrev pub has_absent : List Found → Bool
has_absent found = list_any (λ (f : Found). is_absent f.finding) found

abbrev pub has_undecided : List Found → Bool
has_undecided found = list_any (λ (f : Found). is_undecided f.finding) found
