-- The outcome of the assertions of a transcript, line by line: each is asked of the policy set after the commands before it.
use Rattle.std.specs.Prelude.{◌≡◌, ◌⊎◌, ◌+◌, ℕ, Bool, true, false, if◌then◌else◌, List, [], ◌∷◌, ◌++◌, count_by}
use Rattle.aa_profile_parsing.specs.declared.language.Language.{Language}
use Rattle.aa_set_commands.specs.declared.refusal.RefusalKind.{RefusalKind}
use Rattle.aa_set_commands.specs.declared.refusal.RefusalKind.TheVariants as kind
use Rattle.aa_set_manager.specs.Manager.{Managed, new_manager_in}
use Rattle.aa_set_manager.specs.Outcomes.{line_outcome}
use Rattle.aa_set_manager.specs.declared.reply.Reply.{Reply}
use Rattle.aa_set_manager.specs.declared.reply.Reply.TheVariants.{Refused}
use Rattle.aa_text_files.specs.Files.{File}
use Rattle.aatry_test.specs.Asserting.{IsAsserted}
use Rattle.aatry_test.specs.Headings.{heading}
use Rattle.aatry_test.specs.declared.asserted.Asserted.{Asserted as CodeAsserted}
use Rattle.aatry_transcripts.specs.Transcripts.{assertion_in, command_in, is_assertion, is_command}

-- the outcome of assertions: the report on those that don't hold, and how many they are
pub record Asserted : Type 0 where
  pub text : List ℕ
  pub failing : ℕ

abbrev pub seen_asserted : CodeAsserted → Asserted
seen_asserted asserted = record { text = asserted.text.items; failing = asserted.failing }

-- the outcome of no assertions, and that of some followed by others
abbrev pub nothing_asserted : Asserted
nothing_asserted = record { text = []; failing = 0 }

abbrev pub and_asserted : Asserted → Asserted → Asserted
and_asserted first rest = record { text = first.text ++ rest.text; failing = first.failing + rest.failing }

-- the outcome of the assertion of a line
abbrev pub asserted_at : List ℕ → ℕ → List ℕ → Bool → List ℕ → Asserted
asserted_at path number line holds told = if holds then nothing_asserted else record { text = heading path number line ++ told; failing = 1 }

-- memory ran out at a command
abbrev pub is_memory : RefusalKind → Bool
is_memory kind.Memory = true
is_memory _ = false

abbrev pub lacks_memory : Reply → Bool
lacks_memory (Refused refusal) = is_memory refusal.refusal
lacks_memory _ = false

-- the machine goes on after a command, at which memory didn't run out
pub record GoesOn (files : List File) (managed : Managed) (command : List ℕ) (after : Managed) : Type 0 where
  pub flag : Bool
  pub answered : lacks_memory (line_outcome files managed command flag).reply ≡ false
  pub goes : after ≡ (line_outcome files managed command flag).managed

-- an assertion is asked of the policy set there, which stays
pub record IsAssertedAt (language : Language) (files : List File) (path : List ℕ) (number : ℕ) (managed : Managed) (line : List ℕ) (after : Managed) (own : Asserted) : Type 0 where
  pub holds : Bool
  pub told : List ℕ
  pub asked : IsAsserted language files managed.machine.now (assertion_in line) holds told
  pub comes : own ≡ asserted_at path number line holds told
  pub stays : after ≡ managed

-- a line that holds a command, an assertion, or neither
abbrev pub IsLineOf : Bool → Bool → Language → List File → List ℕ → ℕ → Managed → List ℕ → Managed → Asserted → Type 0
IsLineOf true assertion language files path number managed line after own = GoesOn files managed (command_in line) after × (own ≡ nothing_asserted)
IsLineOf false true language files path number managed line after own = IsAssertedAt language files path number managed line after own
IsLineOf false false language files path number managed line after own = (after ≡ managed) × (own ≡ nothing_asserted)

abbrev pub IsLineAsserted : Language → List File → List ℕ → ℕ → Managed → List ℕ → Managed → Asserted → Type 0
IsLineAsserted language files path number managed line after own =
    IsLineOf (is_command line) (is_assertion line) language files path number managed line after own

-- the outcome of the assertions of lines, of which the first has this number, from a manager on
abbrev pub AreAsserted : Language → List File → List ℕ → ℕ → Managed → List (List ℕ) → Asserted → Type 0
AreAsserted language files path number managed [] all = all ≡ nothing_asserted
AreAsserted language files path number managed (line ∷ lines) all =
    (after : Managed) × (first rest : Asserted) × (all ≡ and_asserted first rest)
    × IsLineAsserted language files path number managed line after first × AreAsserted language files path (number + 1) after lines rest

-- the outcome of the assertions of a transcript, by its lines: it has none, or each is asked in turn, from the empty policy set on
abbrev pub IsTranscriptAsserted : Language → List File → List ℕ → List (List ℕ) → Asserted → Type 0
IsTranscriptAsserted language files path lines all =
    ((count_by is_assertion lines ≡ 0) × (all ≡ nothing_asserted)) ⊎ AreAsserted language files path 1 (new_manager_in language false) lines all
