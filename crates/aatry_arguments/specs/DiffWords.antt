-- What the words after `diff` ask for.
use Rattle.std.specs.Prelude.{ℕ, Bool, ◌==◌, if◌then◌else◌, List, [], ◌∷◌, ◌++◌, Option, Some, None, codes}
use Rattle.std.specs.Option.{option_map_or}
use Rattle.std.specs.Str.{bytes_eq}
use Rattle.aa_start.specs.Options.{Asked, Effect, ForThis, Help, Nothing, Open, Options, SoFar, Unknown, Value, asked_behind, asked_then, help_letter}
use Rattle.aatry_arguments.specs.Flags.{is_given, without_flag}

-- where requests come from: a log, or a file of questions, by its path
pub data SourceAsked : Type 0 where
  LogAt : List ℕ → SourceAsked
  QuestionsAt : List ℕ → SourceAsked

-- a comparison: the old and the new folder of policy, where the requests come from, if the folders are compared by any, and whether it is reported
-- how much differs, and not what
pub record ComparisonAsked : Type 0 where
  pub old : List ℕ
  pub new : List ℕ
  pub source : Option SourceAsked
  pub stat : Bool

-- a comparison, by its four parts
abbrev pub comparison_with : List ℕ → List ℕ → Option SourceAsked → Bool → ComparisonAsked
comparison_with old new source stat = record { old = old; new = new; source = source; stat = stat }

-- the flag that asks for how much differs
abbrev pub stat_flag : List ℕ
stat_flag = codes "--stat"

-- what words give: the path of the last `--log` and of the last `--questions`, where there is one, and the folders
pub record DiffGiven : Type 0 where
  pub log : Option (List ℕ)
  pub questions : Option (List ℕ)
  pub folders : List (List ℕ)

-- what words give, by its three parts
abbrev pub given_with : Option (List ℕ) → Option (List ℕ) → List (List ℕ) → DiffGiven
given_with log questions folders = record { log = log; questions = questions; folders = folders }

-- what no word gives
abbrev pub bare_given : DiffGiven
bare_given = given_with None None []

-- the options that take a path
pub data PathOption : Type 0 where
  OfLog : PathOption
  OfQuestions : PathOption

-- what words give, with the path of an option, in place of an earlier one
abbrev pub with_path : PathOption → List ℕ → DiffGiven → DiffGiven
with_path OfLog path given = record given { log = Some path }
with_path OfQuestions path given = record given { questions = Some path }

-- what words give, with more folders after the others
abbrev pub with_folders : List (List ℕ) → DiffGiven → DiffGiven
with_folders folders given = record given { folders = given.folders ++ folders }

-- an option's letter: there is only `-h`
abbrev by_letter : ℕ → Effect DiffGiven
by_letter letter = if help_letter == letter then Help else Unknown

-- an option's name: `--log` and `--questions` take a path, `--help` asks for help
abbrev by_name : List ℕ → Effect DiffGiven
by_name name =
    if bytes_eq (codes "log") name then Value (with_path OfLog)
    else if bytes_eq (codes "questions") name then Value (with_path OfQuestions)
    else if bytes_eq (codes "help") name then Help
    else Unknown

-- the options after `diff`, where words that are no options are folders
abbrev pub diff_options : Options DiffGiven
diff_options = record { by_letter = by_letter; by_name = by_name; with_words = with_folders }

-- what words give after words with this result
abbrev pub given_behind : SoFar DiffGiven → List (List ℕ) → Asked DiffGiven
given_behind so_far given = asked_behind diff_options so_far given

-- where requests come from, if they do; both a log and a file of questions can't be given
abbrev pub source_of : Option (List ℕ) → Option (List ℕ) → Option (Option SourceAsked)
source_of None None = Some None
source_of (Some log) None = Some (Some (LogAt log))
source_of None (Some questions) = Some (Some (QuestionsAt questions))
source_of (Some log) (Some questions) = None

-- two folders are compared, and by the requests of a source, if there is one
abbrev pub compared : Bool → List (List ℕ) → Option (Option SourceAsked) → Option ComparisonAsked
compared stat (old ∷ new ∷ []) (Some source) = Some (comparison_with old new source stat)
compared stat folders source = None

-- the comparison of what words give
abbrev pub comparison_of : Bool → DiffGiven → Option ComparisonAsked
comparison_of stat given = compared stat given.folders (source_of given.log given.questions)

-- what is asked for: nothing where words give no comparison
abbrev pub asked_of : Bool → DiffGiven → Asked ComparisonAsked
asked_of stat given = option_map_or (λ comparison. ForThis comparison) (comparison_of stat given) Nothing

-- what words after `diff` without the flag ask for
abbrev pub asked_by : Bool → List (List ℕ) → Asked ComparisonAsked
asked_by stat words = asked_then (asked_of stat) (given_behind (Open bare_given) words)

-- what all words after `diff` ask for
abbrev pub asked_diff : List (List ℕ) → Asked ComparisonAsked
asked_diff words = asked_by (is_given stat_flag words) (without_flag stat_flag words)
