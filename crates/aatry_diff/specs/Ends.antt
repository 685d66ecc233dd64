-- With which faults a comparison of two folders of policy may end.
use Rattle.std.specs.Prelude.{◌≡◌, ◌⊎◌, ℕ, true, List, [], ◌∷◌, MatchOption, Option, Some}
use Rattle.aa_start.specs.Known.{Known}
use Rattle.aatry_arguments.specs.DiffWords.{ComparisonAsked, SourceAsked}
use Rattle.aatry_diff.specs.Below.{path_of}
use Rattle.aatry_folder.specs.OneFile.{IsFileAt}
use Rattle.aatry_folder.specs.Told.{ToldFolders}
use Rattle.aatry_folder.specs.Unread.{IsOfFile, IsOfFolder}
use Rattle.aatry_folder.specs.declared.fault.Fault.{Fault}
use Rattle.aatry_logs.specs.Compressed.{IsNamedCompressed, is_compressed}

-- a fault has the path of a file that gzip wrote
abbrev pub IsOfCompressedAt : Known → List ℕ → Fault → Type 0
IsOfCompressedAt known path fault =
    IsNamedCompressed (Some path) fault
    × ((bytes : List ℕ) × IsFileAt known path ((path, bytes) ∷ []) × (is_compressed bytes ≡ true))

-- a fault keeps the lines of the file at a path from being read: the file can't be read, or gzip wrote it
abbrev pub IsOfPlain : Known → List ℕ → Fault → Type 0
IsOfPlain known path fault = IsOfFile known path fault ⊎ IsOfCompressedAt known path fault

-- a fault keeps the file of a source of requests from being read, if there is one
abbrev pub IsOfSource : Known → Option SourceAsked → Fault → Type 0
IsOfSource known source fault = MatchOption source ⊥ (λ asked. IsOfPlain known (path_of asked) fault)

-- A comparison may end with this fault: one of the two folders can't be read, or the source of requests can't be, if there is one.
abbrev pub IsEndOfDiff : ToldFolders → Known → ComparisonAsked → Fault → Type 0
IsEndOfDiff folders known asked fault =
    IsOfFolder folders asked.old fault ⊎ IsOfFolder folders asked.new fault ⊎ IsOfSource known asked.source fault
