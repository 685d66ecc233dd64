-- The outcome of a check of a folder of policy.
use Rattle.std.specs.Prelude.{◌≡◌, ◌==◌, ℕ, List, [], if◌then◌else◌, length, Option}
use Rattle.aa_profile_parsing.specs.declared.language.Language.{Language}
use Rattle.aa_text_files.specs.Files.{File}
use Rattle.aa_start.specs.Gathering.{names_of}
use Rattle.aa_start.specs.Known.{Known}
use Rattle.aa_start.specs.declared.readable.UnreadFault.{UnreadFault}
use Rattle.aatry_check.specs.Checks.{TellsEach, refused_count}
use Rattle.aatry_folder.specs.Loadings.{AreTop, TopFile, file_names}
use Rattle.aatry_folder.specs.PolicyFolders.{AreBelow, tried_names}
use Rattle.aatry_folder.specs.Reports.{Report}
use Rattle.aatry_folder.specs.Told.{ToldFolders}
use Rattle.aatry_report.specs.declared.form.Form.{Form}

-- the given names, and others where none is given
abbrev pub given_or : List (List ℕ) → List (List ℕ) → List (List ℕ)
given_or others given = if length given == 0 then others else given

-- the files that are meant: the given ones, or all that are tried where none is given
abbrev pub meant : List TopFile → List (List ℕ) → List (List ℕ)
meant top given = given_or (file_names top) given

-- The files that are meant were checked over all that lies below the folder, by a language: the text reports each of them, with how it is loaded,
-- nothing is noted, and so many failed as were refused.
pub record IsChecked (form : Form) (language : Language) (folders : ToldFolders) (known : Known) (base : List ℕ) (given : List (List ℕ)) (report : Report) : Type 0 where
  pub files : List File
  pub unread : List (Option UnreadFault)
  pub below : AreBelow folders known base files unread
  pub top : List TopFile
  pub loaded : AreTop folders base (tried_names (names_of files) unread) top
  pub told : TellsEach form language files unread base top (meant top given) report.text
  pub noted : report.notes ≡ []
  pub counted : report.failed ≡ refused_count language files (meant top given)
