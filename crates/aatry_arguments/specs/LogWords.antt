-- What the words after `log` ask for.
use Rattle.std.specs.Prelude.{ℕ, Bool, false, List, Option, None, Some, codes}
use Rattle.std.specs.Option.{option_map}
use Rattle.aa_start.specs.Options.{Asked, ForThis, Nothing, asked_then}
use Rattle.aatry_arguments.specs.CheckWords.{CheckAsked, asked_check}
use Rattle.aatry_arguments.specs.Flags.{is_given, without_flag}
use Rattle.aatry_arguments.specs.Values.{ValueOption, WithValue, value_of}
use Rattle.aatry_words.specs.Named.{time_named}

-- which lines of logs count: only those that log a request as DENIED, those of a profile, those from a time on
pub record LogLinesAsked : Type 0 where
  pub denied : Bool
  pub profile : Option (List ℕ)
  pub since : Option ℕ

-- the lines that count, by the three parts; and all lines
abbrev pub lines_with : Bool → Option (List ℕ) → Option ℕ → LogLinesAsked
lines_with denied profile since = record { denied = denied; profile = profile; since = since }

abbrev pub all_lines : LogLinesAsked
all_lines = lines_with false None None

-- how the requests of logs are reported: whether the status shows lines without an answer, whether rules that can be pasted are reported in place of
-- the answers, and whether wider ones are offered beside these
pub record LogTellingAsked : Type 0 where
  pub strict : Bool
  pub rules : Bool
  pub globs : Bool

-- how they are reported, by the three parts; and where no word says how
abbrev pub telling_with : Bool → Bool → Bool → LogTellingAsked
telling_with strict rules globs = record { strict = strict; rules = rules; globs = globs }

abbrev pub plain_telling : LogTellingAsked
plain_telling = telling_with false false false

-- logs whose requests are asked of a folder of policy: the folder, the paths of the logs, or none for standard input, how they are reported, and
-- which lines count
pub record LogsAsked : Type 0 where
  pub base : List ℕ
  pub paths : List (List ℕ)
  pub telling : LogTellingAsked
  pub lines : LogLinesAsked

-- the logs, by their four parts
abbrev pub logs_with : List ℕ → List (List ℕ) → LogTellingAsked → LogLinesAsked → LogsAsked
logs_with base paths telling lines = record { base = base; paths = paths; telling = telling; lines = lines }

-- the flags that ask for the status, for rules that can be pasted, for wider ones beside these, and for requests that were denied
abbrev pub strict_flag : List ℕ
strict_flag = codes "--strict"

abbrev pub rules_flag : List ℕ
rules_flag = codes "--rules"

abbrev pub globs_flag : List ℕ
globs_flag = codes "--globs"

abbrev pub denied_flag : List ℕ
denied_flag = codes "--denied"

-- the options that take a profile's name and a time
abbrev pub profile_option : ValueOption
profile_option = record { word = codes "--profile"; opening = codes "--profile=" }

abbrev pub since_option : ValueOption
since_option = record { word = codes "--since"; opening = codes "--since=" }

-- the logs of words that were read as a check: its names are their paths
abbrev pub logs_of : LogTellingAsked → LogLinesAsked → CheckAsked → Asked LogsAsked
logs_of telling lines check = ForThis (logs_with check.base check.names telling lines)

-- the profile and the time that words name, if they name any, and the other words
pub record LogNamed : Type 0 where
  pub profile : Option (List ℕ)
  pub since : Option ℕ
  pub words : List (List ℕ)

-- the time that a word names, where there is one; nothing where it names none
abbrev pub since_of : Option (List ℕ) → Option (Option ℕ)
since_of None = Some None
since_of (Some word) = option_map (λ time. Some time) (time_named word)

-- the profile that is named, with the time that words name
abbrev pub named_with : Option (List ℕ) → Option WithValue → Option LogNamed
named_with profile None = None
named_with profile (Some read) = option_map (λ since. record { profile = profile; since = since; words = read.words }) (since_of read.value)

-- what words name, by the value of the option for a profile
abbrev pub named_then : Option WithValue → Option LogNamed
named_then None = None
named_then (Some read) = named_with read.value (value_of since_option read.words)

abbrev pub named_in : List (List ℕ) → Option LogNamed
named_in words = named_then (value_of profile_option words)

-- how words ask for the requests to be reported
abbrev pub telling_in : List (List ℕ) → LogTellingAsked
telling_in words = telling_with (is_given strict_flag words) (is_given rules_flag words) (is_given globs_flag words)

-- the words without the flags
abbrev pub without_flags : List (List ℕ) → List (List ℕ)
without_flags words = without_flag denied_flag (without_flag globs_flag (without_flag rules_flag (without_flag strict_flag words)))

-- the logs of words beside the profile and the time that they name: without the flags, the others are read like those after `check`
abbrev pub asked_named : LogNamed → Asked LogsAsked
asked_named named =
    asked_then
    (logs_of (telling_in named.words) (lines_with (is_given denied_flag named.words) named.profile named.since))
    (asked_check (without_flags named.words))

-- the logs of words beside the profile and the time, if they name these well; else nothing
abbrev pub asked_by_named : Option LogNamed → Asked LogsAsked
asked_by_named None = Nothing
asked_by_named (Some named) = asked_named named

-- the logs of the words after `log`
unfoldable pub asked_logs : List (List ℕ) → Asked LogsAsked
asked_logs words = asked_by_named (named_in words)
