-- The outcome of a test of a transcript.
use Rattle.std.specs.Prelude.{◌≡◌, ◌&&◌, ◌==◌, ℕ, Bool, false, if◌then◌else◌, List, [], ◌∷◌, codes}
use Rattle.std.specs.List.{list_any}
use Rattle.aa_bytes.specs.Texts.{begins_with}
use Rattle.aa_profile_parsing.specs.declared.language.Language.{Language}
use Rattle.aa_set.specs.Run.{output}
use Rattle.aa_set_commands.specs.Lines.{lines}
use Rattle.aa_set_manager.specs.Manager.{new_manager_in}
use Rattle.aa_text_files.specs.Files.{File}
use Rattle.aatry_test.specs.Running.{Asserted, IsTranscriptAsserted}
use Rattle.aatry_transcripts.specs.Accepting.{accepted_text, can_be_accepted}
use Rattle.aatry_transcripts.specs.Transcripts.{input_of, transcript_lines}
use Rattle.aatry_test.specs.Differences.{comparison, passes}

-- the lines that a run over these files, read by a language, writes for the commands of a transcript, from the empty policy set on, for these flags
-- on commands at which memory ran out
abbrev pub told_for : Language → List File → List ℕ → List Bool → List (List ℕ)
told_for language files transcript flags = lines (output files (new_manager_in language false) (input_of (transcript_lines transcript)) flags)

-- a line is the refusal of a command at which memory ran out
abbrev pub says_memory : List ℕ → Bool
says_memory line = begins_with (codes "refused 99 ") line

-- the outcome of a transcript: it is as it is wanted; it differs; or it differs and is accepted, with its text from now on
pub data Outcome : Type 0 where
  Passed : Outcome
  Failed : Outcome
  Accepted : List ℕ → Outcome

-- the output for a transcript is accepted: that is asked for, it can be done, and all assertions hold
abbrev pub is_accepted : Bool → List ℕ → List (List ℕ) → Asserted → Bool
is_accepted accept transcript told asserted = accept && (can_be_accepted (transcript_lines transcript) told && asserted.failing == 0)

-- the outcome of a transcript, by the output and its assertions: it passed where the output is what its wanted lines ask for, and the assertions
-- hold
abbrev pub outcome_of : Bool → List ℕ → List (List ℕ) → Asserted → Outcome
outcome_of accept transcript told asserted =
    if passes (transcript_lines transcript) told asserted then Passed
    else if is_accepted accept transcript told asserted then Accepted (accepted_text transcript told)
    else Failed

-- how many transcripts failed, of one
abbrev pub failed_of : Outcome → ℕ
failed_of Passed = 0
failed_of Failed = 1
failed_of (Accepted text) = 0

-- which files are to be replaced, of one transcript: that of an accepted one, by its text
abbrev pub replaced_of : List ℕ → Outcome → List File
replaced_of path Passed = []
replaced_of path Failed = []
replaced_of path (Accepted text) = (path, text) ∷ []

-- A transcript was compared with the output of a run of its commands, at none of which memory ran out, and its assertions were asked: the outcome
-- depends on both, and on whether the replies are to be accepted; and the text says how it differs, and which assertions don't hold.
pub record IsTested (language : Language) (files : List File) (accept : Bool) (path transcript : List ℕ) (outcome : Outcome) (text : List ℕ) : Type 0 where
  pub flags : List Bool
  pub answered : list_any says_memory (told_for language files transcript flags) ≡ false
  pub assertions : Asserted
  pub asserted : IsTranscriptAsserted language files path (transcript_lines transcript) assertions
  pub decided : outcome ≡ outcome_of accept transcript (told_for language files transcript flags) assertions
  pub told : text
      ≡ comparison (is_accepted accept transcript (told_for language files transcript flags) assertions) path (transcript_lines transcript)
      (told_for language files transcript flags) assertions
