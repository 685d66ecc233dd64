-- Folders of policy, and the policy sets that they make.
use Rattle.std.specs.Prelude.{ℕ, Bool, List, false, map, Option}
use Rattle.aa_decide_ready.specs.Entries.{Loaded}
use Rattle.aa_profile_parsing.specs.declared.language.Language.{Language}
use Rattle.aa_set_manager.specs.Manager.{Managed, new_manager_in}
use Rattle.aa_set_commands.specs.declared.refusal.Refusal.{Refusal}
use Rattle.aa_text_files.specs.Files.{File}
use Rattle.aa_start.specs.declared.readable.UnreadFault.{UnreadFault}
use Rattle.aatry_folder.specs.Loadings.{TopFile, file_names, seen_top}
use Rattle.aatry_folder.specs.declared.policy_folder.PolicyFolder.{PolicyFolder}
use Rattle.aatry_folder.specs.PolicyFiles.{PolicyFiles}
use Rattle.aatry_policy.specs.LeftOut.{LeftOut, left_out_of, listed_lines}
use Rattle.aatry_policy.specs.Notes.{left_out_count, note_on}
use Rattle.aatry_policy.specs.Origins.{origins_of}
use Rattle.aatry_policy.specs.Policies.{loaded, outcomes}
use Rattle.aatry_policy.specs.Profiles.{FileProfiles, read_profiles}
use Rattle.aatry_policy.specs.declared.origins.Origin.{Origin}
use Rattle.aatry_report.specs.declared.form.Form.{Form}

-- a folder of policy: the language by which its files are read, all that lies below it, with why each file wasn't read, if it wasn't, its path, and
-- the files whose profiles are loaded, with how they are, in that order
pub record Folder : Type 0 where
  pub language : Language
  pub files : List File
  pub unread : List (Option UnreadFault)
  pub base : List ℕ
  pub top : List TopFile

-- a folder that was read
abbrev pub seen_folder : PolicyFolder → Folder
seen_folder folder = record {
  language = folder.language;
  files = folder.files;
  unread = folder.unread.items;
  base = folder.base.now;
  top = map seen_top folder.top.items;
}

-- what lies below it
abbrev pub below : Folder → PolicyFiles
below folder = record { files = folder.files; base = folder.base }

-- a folder by its path and all that lies below it, of which these files are loaded, by a language
abbrev pub folder_at : Language → List ℕ → List File → List (Option UnreadFault) → List TopFile → Folder
folder_at language base files unread top = record { language = language; files = files; unread = unread; base = base; top = top }

-- the manager of its files, added one after the other
abbrev pub loaded_in : Folder → Managed
loaded_in folder = loaded folder.files (new_manager_in folder.language false) folder.top

-- the policy set of them
abbrev pub policy_in : Folder → List Loaded
policy_in folder = (loaded_in folder).machine.now

-- why each of them is left out, if it is
abbrev pub outcomes_in : Folder → List (Option Refusal)
outcomes_in folder = outcomes folder.files (new_manager_in folder.language false) folder.top

-- the files that are taken, with their profiles
abbrev pub read_in : Folder → List FileProfiles
read_in folder = read_profiles folder.language folder.files (file_names folder.top) (outcomes_in folder)

-- where each profile of the policy set was read
abbrev pub origins_in : Folder → List Origin
origins_in folder = origins_of (read_in folder)

-- the report on those that are left out, verbose or not
abbrev pub left_out_in : Form → Bool → Folder → List ℕ
left_out_in form verbose folder =
    listed_lines form verbose folder.language folder.base folder.files folder.unread (file_names folder.top) (outcomes_in folder)

-- the files that are left out
abbrev pub files_left_out : Folder → List LeftOut
files_left_out folder = left_out_of (file_names folder.top) (outcomes_in folder)

-- the note on them
abbrev pub left_out_note : Folder → List ℕ
left_out_note folder = note_on (left_out_count (outcomes_in folder)) folder.language folder.base
