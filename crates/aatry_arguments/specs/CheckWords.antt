-- What the words after `check` ask for.
use Rattle.std.specs.Prelude.{ℕ, ◌==◌, if◌then◌else◌, List, [], ◌++◌, codes}
use Rattle.std.specs.Str.{bytes_eq}
use Rattle.aa_start.specs.Options as words
use Rattle.aa_start.specs.Options.{Asked, Effect, Help, Open, Options, SoFar, Unknown, Value, base_letter, default_base, help_letter}

-- a check that is asked for: the folder of policy, and the names of its files to check, or none for all at its top
pub record CheckAsked : Type 0 where
  pub base : List ℕ
  pub names : List (List ℕ)

-- a check, by its two parts
abbrev pub check_with : List ℕ → List (List ℕ) → CheckAsked
check_with base names = record { base = base; names = names }

-- the check of which no word has asked anything
abbrev pub bare_check : CheckAsked
bare_check = check_with default_base []

-- the check of another folder
abbrev pub below : List ℕ → CheckAsked → CheckAsked
below folder check = record check { base = folder }

-- the check with more names after its own
abbrev pub with_names : List (List ℕ) → CheckAsked → CheckAsked
with_names names check = record check { names = check.names ++ names }

-- an option's letter: `b` takes the folder, `h` asks for help
abbrev by_letter : ℕ → Effect CheckAsked
by_letter letter = if base_letter == letter then Value below else if help_letter == letter then Help else Unknown

-- an option's name: there is only `--help`
abbrev by_name : List ℕ → Effect CheckAsked
by_name name = if bytes_eq (codes "help") name then Help else Unknown

-- the options after `check`, where words that are no options are names
abbrev pub check_options : Options CheckAsked
check_options = record { by_letter = by_letter; by_name = by_name; with_words = with_names }

-- what words ask for after words with this result
abbrev pub asked_behind : SoFar CheckAsked → List (List ℕ) → Asked CheckAsked
asked_behind so_far given = words.asked_behind check_options so_far given

-- what all words after `check` ask for
abbrev pub asked_check : List (List ℕ) → Asked CheckAsked
asked_check words = asked_behind (Open bare_check) words
