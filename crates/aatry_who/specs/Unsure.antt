-- Profiles of files that are left out, of which it isn't known whether they would let a request through (docs/aatry.md).
use Rattle.std.specs.Prelude.{ℕ, List, [], Option, None, Some, flat_map}
use Rattle.aa_decide.specs.Exec.{Asker, named_asker}
use Rattle.aa_decide_ready.specs.Entries.{Loaded}
use Rattle.aa_profile_data.specs.FullNames.{full_name}
use Rattle.aatry_policy.specs.Folders.{Folder, policy_in}
use Rattle.aatry_report.specs.declared.form.Form.{Form}
use Rattle.aatry_uncertain.specs.LeftOutHeads.{LeftOutHead, heads_left_out}
use Rattle.aatry_uncertain.specs.Told.{profile_text}

-- a profile of a file that is left out, where nothing of its name is loaded
abbrev pub unless_loaded : Form → List ℕ → LeftOutHead → Option Asker → List ℕ
unless_loaded form base left_out None = profile_text form base left_out
unless_loaded form base left_out (Some loaded) = []

abbrev pub unsure_text : Form → List ℕ → List Loaded → LeftOutHead → List ℕ
unsure_text form base entries left_out = unless_loaded form base left_out (named_asker entries (full_name left_out.head.name))

-- the profiles of some heads, where nothing of their names is loaded
abbrev pub unsure_lines : Form → List ℕ → List Loaded → List LeftOutHead → List ℕ
unsure_lines form base entries heads = flat_map (unsure_text form base entries) heads

-- the profiles of a folder that are left out, where nothing of their names is loaded
abbrev pub unsure_in : Form → Folder → List ℕ
unsure_in form folder = unsure_lines form folder.base (policy_in folder) (heads_left_out folder)
