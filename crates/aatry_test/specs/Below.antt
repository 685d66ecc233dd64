-- The outcome of a test of transcripts over a folder of policy.
use Rattle.std.specs.Prelude.{◌≡◌, ◌+◌, ℕ, Bool, List, [], ◌∷◌, ◌++◌, Option}
use Rattle.aa_profile_parsing.specs.declared.language.Language.{Language}
use Rattle.aa_text_files.specs.Files.{File}
use Rattle.aa_start.specs.Known.{Known}
use Rattle.aa_start.specs.declared.readable.UnreadFault.{UnreadFault}
use Rattle.aatry_folder.specs.OneFile.{IsFileAt}
use Rattle.aatry_folder.specs.PolicyFolders.{AreBelow}
use Rattle.aatry_folder.specs.Told.{ToldFolders}
use Rattle.aatry_folder.specs.Reports.{Report}
use Rattle.aatry_test.specs.Stores.{Replaces}
use Rattle.aatry_test.specs.Tests.{IsTested, Outcome, failed_of, replaced_of}

-- the results of tests: their report, how many transcripts failed, and which files are to be replaced, by which bytes
pub record Came : Type 0 where
  pub text : List ℕ
  pub failed : ℕ
  pub replaced : List File

-- the results by their three parts; and those of no test
abbrev pub came_with : List ℕ → ℕ → List File → Came
came_with text failed replaced = record { text = text; failed = failed; replaced = replaced }

abbrev pub came_to_nothing : Came
came_to_nothing = came_with [] 0 []

-- the results of tests, followed by those of others
abbrev pub and_then : Came → Came → Came
and_then first rest = came_with (first.text ++ rest.text) (first.failed + rest.failed) (first.replaced ++ rest.replaced)

-- The transcript of this path was tested by a language, and its outcome was reported.
abbrev pub IsFileTested : Language → Known → List File → Bool → List ℕ → Came → Type 0
IsFileTested language known files accept path came =
    (bytes : List ℕ) × (outcome : Outcome) × IsFileAt known path ((path, bytes) ∷ []) × IsTested language files accept path bytes outcome came.text
    × (came.failed ≡ failed_of outcome) × (came.replaced ≡ replaced_of path outcome)

-- each of these transcripts was tested, one after the other
abbrev pub TestsEach : Language → Known → List File → Bool → List (List ℕ) → Came → Type 0
TestsEach language known files accept [] came = came ≡ came_to_nothing
TestsEach language known files accept (path ∷ paths) came =
    (first rest : Came) × (came ≡ and_then first rest) × IsFileTested language known files accept path first × TestsEach language known files accept paths rest

-- The transcripts were tested over all that lies below the folder, read by a language: the text reports each of them, nothing is noted, and so many
-- failed; and these files are to be replaced.
pub record IsTestedBelow (language : Language) (folders : ToldFolders) (known : Known) (base : List ℕ) (paths : List (List ℕ)) (accept : Bool) (report : Report) (replaced : List File) : Type 0 where
  pub files : List File
  pub unread : List (Option UnreadFault)
  pub below : AreBelow folders known base files unread
  pub each : TestsEach language known files accept paths (came_with report.text report.failed replaced)
  pub noted : report.notes ≡ []

-- the transcripts were tested so, and just these files were replaced, by what is known of those that were replaced before and after
abbrev pub IsTestedAndReplaced : Language → ToldFolders → Known → List ℕ → List (List ℕ) → Bool → Option (List File) → Option (List File) → Report → Type 0
IsTestedAndReplaced language folders known base paths accept before after report =
    (replaced : List File) × IsTestedBelow language folders known base paths accept report replaced × Replaces before after replaced
