-- What the assertions of a transcript depend on.
use Rattle.std.specs.Prelude.{◌≡◌, ◌||◌, ℕ, Bool, List}
use Rattle.std.specs.List.{filter}
use Rattle.aa_profile_parsing.specs.declared.language.Language.{Language}
use Rattle.aa_text_files.specs.Files.{File}
use Rattle.aatry_test.specs.Running.{Asserted, IsTranscriptAsserted, nothing_asserted}
use Rattle.aatry_transcripts.specs.Transcripts.{is_assertion, is_command}

-- a line that changes the policy set, or asserts something of it
abbrev pub is_step : List ℕ → Bool
is_step line = is_command line || is_assertion line

-- where all assertions of a transcript hold, so do those of each other one that has the same commands and assertions, in the same order
abbrev pub DependOnSteps : Type 0
DependOnSteps =
    (language : Language) (files : List File) (path : List ℕ) (lines others : List (List ℕ)) (all : Asserted)
    → IsTranscriptAsserted language files path lines all → all.failing ≡ 0 → filter is_step others ≡ filter is_step lines
    → IsTranscriptAsserted language files path others nothing_asserted
