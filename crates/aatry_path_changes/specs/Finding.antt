-- What a change of policy changes of profiles, children and hats (docs/aatry.md, "`aatry diff --all`").
use Rattle.std.specs.Prelude.{◌≡◌, ℕ, Bool, false, ◌&&◌, if◌then◌else◌, List, [], ◌∷◌, ◌++◌, filter, map, Option, None, Some, option_map}
use Rattle.std.specs.List.{All}
use Rattle.aa_explain_changes.specs.FileChanges.{AreChangesOf}
use Rattle.aa_explain_changes.specs.Sides.{Side, Sides}
use Rattle.aa_explain_changes.specs.declared.asking.FileChanges.{FileChanges}
use Rattle.aa_explain_start_changes.specs.Starters.{Starters, seen_starters}
use Rattle.aa_explain_start_changes.specs.declared.changes.StartChange.{StartChange}
use Rattle.aatry_changes.specs.PartChanges.{is_new}
use Rattle.aatry_claims.specs.Found.{asks_rules}
use Rattle.aatry_policy.specs.FolderParts.{FolderParts}
use Rattle.aatry_policy.specs.Parts.{Part, part_of}
use Rattle.aatry_policy.specs.SeenProfiles.{seen_part}
use Rattle.aatry_path_changes.specs.Others.{other_changes}
use Rattle.aatry_path_changes.specs.Starts.{AreStartsOf, Policies, starters_named}
use Rattle.aatry_path_changes.specs.declared.finding.BothFound.{BothFound}
use Rattle.aatry_path_changes.specs.declared.finding.Finding.{Finding as CodeFinding}
use Rattle.aatry_path_changes.specs.declared.finding.Finding.TheVariants as code
use Rattle.aatry_path_changes.specs.declared.finding.Found.{Found as CodeFound}
use Rattle.aatry_path_changes.specs.declared.others.OtherChange.{OtherChange}

-- the rules of two parts are asked, of both
abbrev pub ask_rules : Part → Part → Bool
ask_rules part other = asks_rules part.section.mode && asks_rules other.section.mode

-- what the rules of a part say, asked in enforce mode, whatever its mode
abbrev pub side_of : Part → Side
side_of part = record { audit = part.section.audit; rules = part.section.rules }

-- what no rules say
abbrev pub no_rules : Side
no_rules = record { audit = false; rules = [] }

-- what counts of the rules of a part: all of them, or none
abbrev pub side_if : Bool → Part → Side
side_if asked part = if asked then side_of part else no_rules

-- The two sides of a change of a part, and whether answers are the same that differ in how they are logged alone. Where the rules of one of them aren't asked, those
-- of the other have nothing to be compared with, and none counts: what changes is the mode.
abbrev pub sides_of : Bool → Part → Part → Sides
sides_of quiet part other = let asked = ask_rules part other in record { old = side_if asked part; new = side_if asked other; quiet = quiet }

-- a part of the old folder, the one of its full name in the new one, what the change changes of files, where paths aren't too many, and of what is no file; and
-- who starts programs by this name in either policy set, and the starts that lead elsewhere, where their paths aren't too many
pub record Both : Type 0 where
  pub part : Part
  pub other : Part
  pub files : Option FileChanges
  pub others : List OtherChange
  pub starters : Starters
  pub starts : Option (List StartChange)

-- nobody has a name; or the old folder alone has somebody of it, or the new one alone, or both have
pub data Finding : Type 0 where
  OfAbsent : Finding
  OfGone : Part → Finding
  OfNew : Part → Finding
  OfBoth : Both → Finding

-- a full name, and what is found
pub record Found : Type 0 where
  pub name : List ℕ
  pub finding : Finding

abbrev pub seen_both : BothFound → Both
seen_both both = record { part = seen_part both.part.now; other = seen_part both.other.now; files = both.files; others = both.others.items; starters = seen_starters both.starters; starts = option_map (λ starts. starts.items) both.starts }

abbrev pub seen_finding : CodeFinding → Finding
seen_finding code.Absent = OfAbsent
seen_finding (code.Gone part) = OfGone (seen_part part.now)
seen_finding (code.New part) = OfNew (seen_part part.now)
seen_finding (code.Both both) = OfBoth (seen_both both)

abbrev pub seen_found : CodeFound → Found
seen_found found = record { name = found.name.items; finding = seen_finding found.finding }

-- What is found of two parts is right: what changes of files by the rules of both, within a limit, all that changes of what is no file, and, within the limit,
-- the starts of programs by who has their name that lead elsewhere by the policy sets of both folders.
pub record IsOfBoth (quiet : Bool) (limit : ℕ) (policies : Policies) (before now : Part) (both : Both) : Type 0 where
  pub part : both.part ≡ before
  pub other : both.other ≡ now
  pub files : AreChangesOf (sides_of quiet before now) limit both.files
  pub others : both.others ≡ other_changes (sides_of quiet before now)
  pub starters : both.starters ≡ starters_named policies before.name
  pub starts : AreStartsOf (starters_named policies before.name) limit both.starts

-- What is found is right, by the part that the old folder has of a name, and the one that the new one has.
abbrev pub IsFinding : Bool → ℕ → Policies → Option Part → Option Part → Finding → Type 0
IsFinding quiet limit policies None None finding = finding ≡ OfAbsent
IsFinding quiet limit policies (Some part) None finding = finding ≡ OfGone part
IsFinding quiet limit policies None (Some other) finding = finding ≡ OfNew other
IsFinding quiet limit policies (Some part) (Some other) finding = (both : Both) × (finding ≡ OfBoth both) × IsOfBoth quiet limit policies part other both

-- the same of the first parts of a name
abbrev pub IsFound : Bool → ℕ → Policies → FolderParts → FolderParts → Found → Type 0
IsFound quiet limit policies old new found = IsFinding quiet limit policies (part_of old.parts found.name) (part_of new.parts found.name) found.finding

-- the names of parts, and of those of whom something is found
abbrev pub part_names : List Part → List (List ℕ)
part_names parts = map (λ (part : Part). part.name) parts

abbrev pub found_names : List Found → List (List ℕ)
found_names found = map (λ (f : Found). f.name) found

-- The names of those who are compared: all of the old folder, and then those that the new one alone has; or these, where words name some.
abbrev pub all_names : FolderParts → FolderParts → List (List ℕ)
all_names old new = part_names old.parts ++ part_names (filter (is_new old) new.parts)

abbrev pub names_or : List (List ℕ) → FolderParts → FolderParts → List (List ℕ)
names_or [] old new = all_names old new
names_or (name ∷ names) old new = name ∷ names

-- what is found is of those of these names, in their order, and right
pub record AreFound (quiet : Bool) (limit : ℕ) (policies : Policies) (old new : FolderParts) (names : List (List ℕ)) (found : List Found) : Type 0 where
  pub each : All (IsFound quiet limit policies old new) found
  pub named : found_names found ≡ names
