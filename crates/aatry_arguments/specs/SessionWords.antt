-- What the words after `session` ask for.
use Rattle.std.specs.Prelude.{ℕ, if◌then◌else◌, List}
use Rattle.aa_bytes.specs.Texts.{is_empty}
use Rattle.aa_start.specs.Options.{Asked, ForThis, Nothing, asked_then}
use Rattle.aatry_arguments.specs.CheckWords.{CheckAsked, asked_check}

-- a session that is asked for: its folder of policy
pub record SessionAsked : Type 0 where
  pub base : List ℕ

-- a session, by its one part
abbrev pub session_with : List ℕ → SessionAsked
session_with base = record { base = base }

-- the session of words that were read as a check: where that has a name, nothing is asked for
abbrev pub session_of : CheckAsked → Asked SessionAsked
session_of check = if is_empty check.names then ForThis (session_with check.base) else Nothing

-- the words after `session` are read like those after `check`
abbrev pub asked_session : List (List ℕ) → Asked SessionAsked
asked_session words = asked_then session_of (asked_check words)
