-- The report on who would let a request through by the policy of a folder (docs/aatry.md).
use Rattle.std.specs.Prelude.{◌≡◌, ℕ, Bool, not, List, ◌++◌, Ok, Option}
use Rattle.aa_bytes.specs.Texts.{is_empty}
use Rattle.aa_profile_parsing.specs.declared.language.Language.{Language}
use Rattle.aa_set_commands.specs.Question.{Question}
use Rattle.aa_text_files.specs.Files.{File}
use Rattle.aa_start.specs.Gathering.{names_of}
use Rattle.aa_start.specs.Known.{Known}
use Rattle.aa_start.specs.declared.readable.UnreadFault.{UnreadFault}
use Rattle.aatry_folder.specs.Loadings.{AreTop, TopFile}
use Rattle.aatry_folder.specs.PolicyFolders.{AreBelow, tried_names}
use Rattle.aatry_folder.specs.Reports.{Report, failed_by}
use Rattle.aatry_folder.specs.Told.{ToldFolders}
use Rattle.aatry_policy.specs.Folders.{Folder, folder_at, left_out_in, left_out_note, policy_in}
use Rattle.aatry_report.specs.declared.form.Form.{Form}
use Rattle.aatry_requests.specs.AskedWords.{letting_question}
use Rattle.aatry_who.specs.Letting.{who_lines}
use Rattle.aatry_who.specs.Sought.{sought_in}
use Rattle.aatry_who.specs.Unsure.{unsure_in}

-- the names that let a question's request through, and by which rules
abbrev pub let_by : Form → Folder → Question → List ℕ
let_by form folder question = who_lines form (sought_in folder question) (policy_in folder)

-- there is such a name
abbrev pub is_let : List ℕ → Bool
is_let text = not (is_empty text)

-- The words make a question of no one in particular, and a text has the files that are left out, verbose or not, the names that would let the
-- request through, and those of which that isn't known.
abbrev pub IsWhoTold : Form → Bool → Folder → List (List ℕ) → List ℕ → Bool → Type 0
IsWhoTold form verbose folder words text found =
    (question : Question) × (letting_question words ≡ Ok question)
    × (text ≡ left_out_in form verbose folder ++ let_by form folder question ++ unsure_in form folder)
    × (found ≡ is_let (let_by form folder question))

-- The files at the top of the folder, with all that lies below it, were asked for by a language: the text has the names that would let the request
-- through, and it is noted how many files are left out. It failed where there is none.
pub record IsWhoToldBelow (form : Form) (verbose : Bool) (language : Language) (folders : ToldFolders) (known : Known) (base : List ℕ) (words : List (List ℕ)) (report : Report) : Type 0 where
  pub files : List File
  pub unread : List (Option UnreadFault)
  pub below : AreBelow folders known base files unread
  pub top : List TopFile
  pub loaded : AreTop folders base (tried_names (names_of files) unread) top
  pub found : Bool
  pub told : IsWhoTold form verbose (folder_at language base files unread top) words report.text found
  pub noted : report.notes ≡ left_out_note (folder_at language base files unread top)
  pub counted : report.failed ≡ failed_by found
