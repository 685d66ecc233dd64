-- What the words of the arguments ask for.
use Rattle.std.specs.Prelude.{ℕ, Bool, true, false, ◌==◌, if◌then◌else◌, List, [], ◌∷◌, ◌++◌, Option, None, Some, codes}
use Rattle.std.specs.Str.{bytes_eq}
use Rattle.aa_start.specs.Options as words
use Rattle.aa_start.specs.Options.{Effect, Flag, Help, Open, Options, SoFar, Unknown, Value, Version, asked_then, base_letter, default_base, help_letter, version_letter}
use Rattle.aa_profile_parsing.specs.Languages.{language_named, word_of}
use Rattle.aa_profile_parsing.specs.declared.language.Language.{Language}
use Rattle.aa_profile_parsing.specs.declared.language.Language.TheVariants.{Three}
pub use Rattle.aa_start.specs.Options.{Asked as AskedOf, ForThis as ForRun, ForHelp, ForVersion, Nothing}

-- a run that is asked for: the word of the language by which files are read, whether every profile is taken in complain mode, the folder below which
-- names lie, and the names
pub record Run : Type 0 where
  pub language : List ℕ
  pub force_complain : Bool
  pub base : List ℕ
  pub names : List (List ℕ)

-- what is asked for: a run, help, the version, or nothing that exists
abbrev pub Asked : Type 0
Asked = AskedOf Run

-- the letter of the option `-C`
abbrev pub complain_letter : ℕ
complain_letter = 67

-- the name of the option `--language`
abbrev pub language_name : List ℕ
language_name = codes "language"

-- the run of which no word has asked anything
abbrev pub bare_run : Run
bare_run = record { language = word_of Three; force_complain = false; base = default_base; names = [] }

-- a run with another language
abbrev pub read_by : List ℕ → Run → Run
read_by word run = record run { language = word }

-- a run with every profile in complain mode
abbrev pub forced : Run → Run
forced run = record run { force_complain = true }

-- a run over another folder
abbrev pub below : List ℕ → Run → Run
below folder run = record run { base = folder }

-- a run with more names after its own
abbrev pub with_names : List (List ℕ) → Run → Run
with_names names run = record run { names = run.names ++ names }

-- an option's letter: `C` is for complain mode, `b` takes the folder, `h` asks for help and `V` for the version
abbrev by_letter : ℕ → Effect Run
by_letter letter =
    if complain_letter == letter then Flag forced
    else if base_letter == letter then Value below
    else if help_letter == letter then Help
    else if version_letter == letter then Version
    else Unknown

-- an option's name: `--language` takes the word of one, `--help` asks for help and `--version` for the version
abbrev by_name : List ℕ → Effect Run
by_name name =
    if bytes_eq language_name name then Value read_by
    else if bytes_eq (codes "help") name then Help
    else if bytes_eq (codes "version") name then Version
    else Unknown

-- the options, where words that are no options are names
abbrev pub run_options : Options Run
run_options = record { by_letter = by_letter; by_name = by_name; with_words = with_names }

-- a run has to have a name
abbrev pub asked_with : List (List ℕ) → Run → Asked
asked_with [] run = Nothing
asked_with (name ∷ names) run = ForRun run

-- a run by a language, if there is one
abbrev pub asked_in : Option Language → Run → Asked
asked_in None run = Nothing
asked_in (Some language) run = ForRun run

-- the word of a run's language has to be that of one
abbrev pub asked_by_language : Run → Asked
asked_by_language run = asked_in (language_named run.language) run

-- what is asked for at the end of the words
abbrev pub asked_at_end : Run → Asked
asked_at_end run = asked_then asked_by_language (asked_with run.names run)

-- what words ask for after words with this result
abbrev pub asked_behind : SoFar Run → List (List ℕ) → Asked
asked_behind so_far given = asked_then asked_at_end (words.asked_behind run_options so_far given)

-- what the words of all arguments ask for
abbrev pub asked : List (List ℕ) → Asked
asked words = asked_behind (Open bare_run) words
