-- What the words of the arguments ask for.
use Rattle.std.specs.Prelude.{ℕ, Bool, false, true, ◌||◌, if◌then◌else◌, List, [], ◌∷◌, codes}
use Rattle.std.specs.Str.{bytes_eq}
use Rattle.aa_start.specs.Options.{Asked, ForHelp, ForVersion, Nothing, asked_as}
use Rattle.aatry_arguments.specs.AskingWords.{AskingAsked, asked_words}
use Rattle.aatry_arguments.specs.CheckWords.{CheckAsked, asked_check}
use Rattle.aatry_arguments.specs.DiffAllWords.{PathComparisonAsked, all_flag, asked_all}
use Rattle.aatry_arguments.specs.DiffWords.{ComparisonAsked, asked_diff}
use Rattle.aatry_arguments.specs.Flags.{is_given, without_flag}
use Rattle.aatry_arguments.specs.LogWords.{LogsAsked, asked_logs}
use Rattle.aatry_arguments.specs.PathsWords.{AllPathsAsked, asked_paths}
use Rattle.aatry_arguments.specs.ReachWords.{ReachAsked, asked_reach}
use Rattle.aatry_arguments.specs.RulesWords.{RulesCheckAsked, asked_rules, redundant_flag}
use Rattle.aatry_arguments.specs.SessionWords.{SessionAsked, asked_session}
use Rattle.aatry_arguments.specs.TestWords.{TestAsked, asked_test}

-- a command that is asked for
pub data CommandAsked : Type 0 where
  ForCheck : CheckAsked → CommandAsked
  ForRules : RulesCheckAsked → CommandAsked
  ForTest : TestAsked → CommandAsked
  ForWho : AskingAsked → CommandAsked
  ForWhy : AskingAsked → CommandAsked
  ForPaths : AllPathsAsked → CommandAsked
  ForReach : ReachAsked → CommandAsked
  ForLog : LogsAsked → CommandAsked
  ForDiff : ComparisonAsked → CommandAsked
  ForDiffAll : PathComparisonAsked → CommandAsked
  ForSession : SessionAsked → CommandAsked

-- a word that asks for help in place of a command
abbrev pub is_help_word : List ℕ → Bool
is_help_word word = bytes_eq word (codes "-h") || bytes_eq word (codes "--help")

-- a word that asks for the version in place of a command
abbrev pub is_version_word : List ℕ → Bool
is_version_word word = bytes_eq word (codes "-V") || bytes_eq word (codes "--version")

-- what the words after `diff` ask for: a comparison for all paths, where the flag is among them, and else one of profiles and requests
abbrev pub asked_diffs : List (List ℕ) → Asked CommandAsked
asked_diffs words =
    if is_given all_flag words then asked_as ForDiffAll (asked_all (without_flag all_flag words)) else asked_as ForDiff (asked_diff words)

-- what the words after `check` ask for: which rules decide nothing, where the flag is among them, and else for a check of files
abbrev pub asked_checks : List (List ℕ) → Asked CommandAsked
asked_checks words =
    if is_given redundant_flag words then asked_as ForRules (asked_rules (without_flag redundant_flag words)) else asked_as ForCheck (asked_check words)

-- what a first word asks for, with the words after it: it is the name of a command, or asks for help or the version
abbrev pub asked_by_first : List ℕ → List (List ℕ) → Asked CommandAsked
asked_by_first first words =
    if bytes_eq first (codes "check") then asked_checks words
    else if bytes_eq first (codes "test") then asked_as ForTest (asked_test words)
    else if bytes_eq first (codes "who") then asked_as ForWho (asked_words words)
    else if bytes_eq first (codes "why") then asked_as ForWhy (asked_words words)
    else if bytes_eq first (codes "never") then asked_as ForPaths (asked_paths false words)
    else if bytes_eq first (codes "always") then asked_as ForPaths (asked_paths true words)
    else if bytes_eq first (codes "reach") then asked_as ForReach (asked_reach words)
    else if bytes_eq first (codes "log") then asked_as ForLog (asked_logs words)
    else if bytes_eq first (codes "diff") then asked_diffs words
    else if bytes_eq first (codes "session") then asked_as ForSession (asked_session words)
    else if is_help_word first then ForHelp
    else if is_version_word first then ForVersion
    else Nothing

-- what the words of all arguments ask for: where there is none, for help
abbrev pub asked : List (List ℕ) → Asked CommandAsked
asked [] = ForHelp
asked (first ∷ words) = asked_by_first first words
