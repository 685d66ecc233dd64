-- The names of profiles on which it depends under which profile a program runs: those of the target, where nothing of the name is loaded
-- (docs/aatry.md).
use Rattle.std.specs.Prelude.{ℕ, List, [], ◌∷◌, Option, None, Some, flat_map}
use Rattle.aa_decide.specs.Exec.{Asker, named_asker}
use Rattle.aa_decide_ready.specs.Entries.{Loaded}
use Rattle.aa_profile_data.specs.FullNames.{full_name}
use Rattle.aa_profile_data.specs.Stacks.{Stack, stack_of}
use Rattle.aa_profile_data.specs.declared.exec_word.Destination.{Destination}
use Rattle.aa_profile_data.specs.declared.exec_word.Destination.TheVariants as to
use Rattle.aatry_report.specs.declared.form.Form.{Form}
use Rattle.aatry_uncertain.specs.LeftOutHeads.{LeftOutHead}
use Rattle.aatry_uncertain.specs.Told.{name_lines}

-- a name that is no stack: a full name, where a profile is looked for; the children and hats of the asker are in its own file
abbrev pub name_alone : List ℕ → Destination → List (List ℕ)
name_alone name to.Profile = name ∷ []
name_alone name to.Child = []
name_alone name to.Inherit = []
name_alone name to.Unconfined = []

-- of a stack its members, whatever its base
abbrev pub names_by : List ℕ → Destination → Option Stack → List (List ℕ)
names_by name destination None = name_alone name destination
names_by name destination (Some stack) = stack.members

-- the full names that are looked for
abbrev pub target_names : Option (List ℕ) → Destination → List (List ℕ)
target_names None destination = []
target_names (Some name) destination = names_by name destination (stack_of name)

-- the profiles that are left out of a full name, where nothing of it is loaded
abbrev pub unless_loaded : Form → List ℕ → List LeftOutHead → List ℕ → Option Asker → List ℕ
unless_loaded form base heads name None = name_lines form base name heads
unless_loaded form base heads name (Some loaded) = []

abbrev pub told_of_name : Form → List ℕ → List Loaded → List LeftOutHead → List ℕ → List ℕ
told_of_name form base entries heads name = unless_loaded form base heads name (named_asker entries (full_name name))

-- the profiles that are left out of each of some names
abbrev pub told_of_names : Form → List ℕ → List Loaded → List LeftOutHead → List (List ℕ) → List ℕ
told_of_names form base entries heads names = flat_map (told_of_name form base entries heads) names

-- the profiles that are left out of the names in a target, by where its word leads
abbrev pub target_lines : Form → List ℕ → List Loaded → List LeftOutHead → Option (List ℕ) → Destination → List ℕ
target_lines form base entries heads target destination = told_of_names form base entries heads (target_names target destination)
