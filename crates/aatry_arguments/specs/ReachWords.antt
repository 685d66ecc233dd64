-- What the words after `reach` ask for.
use Rattle.std.specs.Prelude.{ℕ, Bool, List, Option, None, Some, codes}
use Rattle.aa_start.specs.Options.{Asked, ForThis, Nothing, asked_then}
use Rattle.aatry_arguments.specs.AskingWords.{AskingAsked, asked_words}
use Rattle.aatry_arguments.specs.Flags.{is_given, without_flag}
use Rattle.aatry_arguments.specs.PathsWords.{PathsLimited, limited_in}

-- under which profiles programs may run that are started by some names: the names and the folder, whether the report is a graph, and how many sets
-- are looked at
pub record ReachAsked : Type 0 where
  pub asking : AskingAsked
  pub dot : Bool
  pub limit : ℕ

-- the question, by its three parts
abbrev pub reach_with : Bool → ℕ → AskingAsked → ReachAsked
reach_with dot limit asking = record { asking = asking; dot = dot; limit = limit }

-- the flag that asks for a graph
abbrev pub dot_flag : List ℕ
dot_flag = codes "--dot"

-- the question of words that were read as a question, which are the names of those that start programs
abbrev pub reach_of : Bool → ℕ → AskingAsked → Asked ReachAsked
reach_of dot limit asking = ForThis (reach_with dot limit asking)

-- the question of words beside the limit that they name: without the flag, the others are read like those after `who`
abbrev pub asked_limited : PathsLimited → Asked ReachAsked
asked_limited limited =
    asked_then (reach_of (is_given dot_flag limited.words) limited.limit) (asked_words (without_flag dot_flag limited.words))

-- the question of words beside the limit, if they name it well; else nothing
abbrev pub asked_by_limit : Option PathsLimited → Asked ReachAsked
asked_by_limit None = Nothing
asked_by_limit (Some limited) = asked_limited limited

-- the question of the words after `reach`
unfoldable pub asked_reach : List (List ℕ) → Asked ReachAsked
asked_reach words = asked_by_limit (limited_in words)
