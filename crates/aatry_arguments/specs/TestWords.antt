-- What the words after `test` ask for.
use Rattle.std.specs.Prelude.{ℕ, Bool, if◌then◌else◌, List, codes}
use Rattle.aa_bytes.specs.Texts.{is_empty}
use Rattle.aa_start.specs.Options.{Asked, ForThis, Nothing, asked_then}
use Rattle.aatry_arguments.specs.CheckWords.{CheckAsked, asked_check}
use Rattle.aatry_arguments.specs.Flags.{is_given, without_flag}

-- a test: the folder of policy, the paths of the transcripts, one at least, and whether the replies are to be accepted
pub record TestAsked : Type 0 where
  pub base : List ℕ
  pub paths : List (List ℕ)
  pub accept : Bool

-- a test, by its three parts
abbrev pub test_with : List ℕ → List (List ℕ) → Bool → TestAsked
test_with base paths accept = record { base = base; paths = paths; accept = accept }

-- the flag that asks for the replies to be accepted
abbrev pub accept_flag : List ℕ
accept_flag = codes "--accept"

-- the test of words that were read as a check: its names are the paths, and where there is none nothing is asked for
abbrev pub test_of : Bool → CheckAsked → Asked TestAsked
test_of accept check = if is_empty check.names then Nothing else ForThis (test_with check.base check.names accept)

-- the words after `test`, without the flag, are read like those after `check`
abbrev pub asked_test : List (List ℕ) → Asked TestAsked
asked_test words = asked_then (test_of (is_given accept_flag words)) (asked_check (without_flag accept_flag words))
