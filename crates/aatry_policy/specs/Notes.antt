-- The note on the files that are left out of a policy set (docs/aatry.md).
use Rattle.std.specs.Prelude.{ℕ, ◌+◌, ◌==◌, if◌then◌else◌, List, [], ◌∷◌, ◌++◌, codes, Option, is_none}
use Rattle.std.specs.Fmt.{decimal}
use Rattle.std.specs.Str.{bytes_eq}
use Rattle.aa_bytes.specs.Bytes.{line_feed}
use Rattle.aa_start.specs.Options.{default_base}
use Rattle.aa_profile_parsing.specs.declared.language.Language.{Language}
use Rattle.aa_profile_parsing.specs.declared.language.Language.TheVariants.{Four, Three}
use Rattle.aa_set_commands.specs.declared.refusal.Refusal.{Refusal}
use Rattle.aatry_folder.specs.Reports.{failed_by}
use Rattle.aatry_report.specs.Shown.{shown}

-- how many files are left out, by whether each was refused
abbrev pub left_out_count : List (Option Refusal) → ℕ
left_out_count [] = 0
left_out_count (outcome ∷ outcomes) = failed_by (is_none outcome) + left_out_count outcomes

-- several files, like a note begins
abbrev pub several_text : ℕ → List ℕ
several_text number = codes "aatry: " ++ decimal number ++ codes " files"

-- so many files, like a note begins
abbrev pub files_text : ℕ → List ℕ
files_text number = if number == 1 then codes "aatry: 1 file" else several_text number

-- the option with which a command reads policy by a language: there is none for the one that it reads anyway
abbrev pub language_option : Language → List ℕ
language_option Three = codes " --language 3"
language_option Four = []

-- the option with which it reads a folder, likewise
abbrev pub base_option : List ℕ → List ℕ
base_option base = if bytes_eq base default_base then [] else codes " -b " ++ shown base

-- The note on so many files of a folder, with the command that reports what is wrong with each; where there are none, nothing is noted.
abbrev pub note_on : ℕ → Language → List ℕ → List ℕ
note_on number language base =
    if number == 0 then []
    else files_text number ++ codes " left out: see aatry check" ++ language_option language ++ base_option base ++ line_feed ∷ []
