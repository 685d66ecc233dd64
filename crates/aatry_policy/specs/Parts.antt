-- The parts of a policy set: its profiles, and the children and hats of these, each with its state and with where its rules are written.
use Rattle.std.specs.Prelude.{ℕ, ◌+◌, false, if◌then◌else◌, List, [], ◌∷◌, ◌++◌, Option, None, Some}
use Rattle.std.specs.Str.{bytes_eq}
use Rattle.aa_decide_ready.specs.Entries.{Loaded}
use Rattle.aa_decide_ready.specs.declared.entry.State.{State}
use Rattle.aa_explain.specs.AlikePolicies.{mode_in}
use Rattle.aa_explain_diff.specs.Sections.{Section}
use Rattle.aa_profile_data.specs.declared.profile.Child.{Child}
use Rattle.aa_profile_data.specs.declared.profile.Profile.{Profile}
use Rattle.aa_set_answers.specs.ProfileNames.{full_name_at}
use Rattle.aa_text_files.specs.declared.text_error.Place.{Place}
use Rattle.aatry_policy.specs.Origins.{file_of, idle_flags, rule_places}
use Rattle.aatry_policy.specs.declared.origins.Origin.{Origin}

-- a profile, or a child or hat of one: its full name, the file that it is read from, what it has, and the places of its rules
pub record Part : Type 0 where
  pub name : List ℕ
  pub file : List ℕ
  pub section : Section
  pub places : List (Option Place)

-- what a profile has by itself, in a state, with its flags that decide nothing
abbrev pub profile_section : List (List ℕ) → State → Profile → Section
profile_section flags state profile = record {
  mode = mode_in state None;
  hat = false;
  audit = profile.audit;
  flags = flags;
  attachments = profile.attachments;
  rules = profile.rules;
}

-- what the child or hat at an index of a profile in a state has
abbrev pub child_section : List (List ℕ) → State → ℕ → Child → Section
child_section flags state place child = record {
  mode = mode_in state (Some place);
  hat = child.hat;
  audit = child.audit;
  flags = flags;
  attachments = child.attachments;
  rules = child.rules;
}

-- a loaded profile by itself, by its origin
abbrev pub profile_part : Option Origin → Loaded → Part
profile_part origin entry = record {
  name = full_name_at entry.profile None;
  file = file_of origin;
  section = profile_section (idle_flags origin None) entry.state entry.profile;
  places = rule_places origin None;
}

-- the child or hat at an index of a loaded profile
abbrev pub child_part : Option Origin → Loaded → ℕ → Child → Part
child_part origin entry place child = record {
  name = full_name_at entry.profile (Some place);
  file = file_of origin;
  section = child_section (idle_flags origin (Some place)) entry.state place child;
  places = rule_places origin (Some place);
}

-- its children and hats, where the first has this index
abbrev pub child_parts : Option Origin → Loaded → ℕ → List Child → List Part
child_parts origin entry place [] = []
child_parts origin entry place (child ∷ children) = child_part origin entry place child ∷ child_parts origin entry (place + 1) children

-- a loaded profile, followed by its children and hats
abbrev pub profile_parts : Option Origin → Loaded → List Part
profile_parts origin entry = profile_part origin entry ∷ child_parts origin entry 0 entry.profile.children

-- the first of some origins, and those after it
abbrev pub first_of : List Origin → Option Origin
first_of [] = None
first_of (origin ∷ origins) = Some origin

abbrev pub behind_first : List Origin → List Origin
behind_first [] = []
behind_first (origin ∷ origins) = origins

-- the parts of a policy set, each entry with its own origin
abbrev pub set_parts : List Loaded → List Origin → List Part
set_parts [] origins = []
set_parts (entry ∷ entries) origins = profile_parts (first_of origins) entry ++ set_parts entries (behind_first origins)

-- the first part of a full name, if there is one
abbrev pub part_of : List Part → List ℕ → Option Part
part_of [] who = None
part_of (part ∷ parts) who = if bytes_eq part.name who then Some part else part_of parts who
