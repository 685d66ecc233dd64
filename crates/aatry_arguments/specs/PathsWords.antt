-- What the words after `never` and `always` ask for.
use Rattle.std.specs.Prelude.{ℕ, Bool, List, Option, None, Some, codes}
use Rattle.std.specs.Option.{option_map}
use Rattle.aa_start.specs.Options.{Asked, ForThis, Nothing, asked_then}
use Rattle.aatry_arguments.specs.AskingWords.{AskingAsked, asked_words}
use Rattle.aatry_arguments.specs.Flags.{is_given, without_flag}
use Rattle.aatry_arguments.specs.Values.{ValueOption, WithValue, value_of}
use Rattle.aatry_words.specs.Numbers.{number_of}

-- a question about all paths: the question to a folder, whether it is `always`, whether only names are reported, and how many sets are looked at;
-- which words make a question is decided elsewhere
pub record AllPathsAsked : Type 0 where
  pub asking : AskingAsked
  pub always : Bool
  pub names : Bool
  pub limit : ℕ

-- the question, by its four parts
abbrev pub paths_with : Bool → Bool → ℕ → AskingAsked → AllPathsAsked
paths_with always names limit asking = record { asking = asking; always = always; names = names; limit = limit }

-- the flag that asks for names alone
abbrev pub names_flag : List ℕ
names_flag = codes "--names"

-- the option that takes a limit, and the limit where none is named
abbrev pub limit_option : ValueOption
limit_option = record { word = codes "--limit"; opening = codes "--limit=" }

abbrev pub usual_limit : ℕ
usual_limit = 262144

-- the question about all paths of a question
abbrev pub paths_of : Bool → Bool → ℕ → AskingAsked → Asked AllPathsAsked
paths_of always names limit asking = ForThis (paths_with always names limit asking)

-- the limit that words name, and the other words
pub record PathsLimited : Type 0 where
  pub limit : ℕ
  pub words : List (List ℕ)

-- the limit that a word names, where there is one
abbrev pub limit_of : Option (List ℕ) → Option ℕ
limit_of None = Some usual_limit
limit_of (Some word) = number_of word

-- the limit, by the value of its option
abbrev pub limited_by : Option WithValue → Option PathsLimited
limited_by None = None
limited_by (Some read) = option_map (λ limit. record { limit = limit; words = read.words }) (limit_of read.value)

abbrev pub limited_in : List (List ℕ) → Option PathsLimited
limited_in words = limited_by (value_of limit_option words)

-- the question of words beside the limit that they name: without the flag, the others are read like those after `who`
abbrev pub asked_limited : Bool → PathsLimited → Asked AllPathsAsked
asked_limited always limited =
    asked_then (paths_of always (is_given names_flag limited.words) limited.limit) (asked_words (without_flag names_flag limited.words))

-- the question of words beside the limit, if they name it well; else nothing
abbrev pub asked_by_limit : Bool → Option PathsLimited → Asked AllPathsAsked
asked_by_limit always None = Nothing
asked_by_limit always (Some limited) = asked_limited always limited

-- the question of the words after `never`, or `always`
unfoldable pub asked_paths : Bool → List (List ℕ) → Asked AllPathsAsked
asked_paths always words = asked_by_limit always (limited_in words)
