-- Definitions for the law on commands and options.
use Rattle.std.specs.Prelude.{ℕ, Bool, true, false, not, ◌&&◌, ◌||◌, ◌++◌, List, [], ◌∷◌, None, Some, codes}
use Rattle.std.specs.List.{list_all}
use Rattle.aa_start.specs.Options.{Asked, ForHelp, ForThis, ForVersion, Nothing}
use Rattle.aatry_arguments.specs.Forms.{CallAsked, asked_call}
use Rattle.aatry_hints.specs.Commands.{is_taken, own_options}
use Rattle.aatry_hints.specs.Options.{letters, options}
use Rattle.aatry_hints.specs.Together.{Together}

-- nothing that exists is asked for
abbrev pub is_nothing : Asked CallAsked → Bool
is_nothing Nothing = true
is_nothing (ForThis call) = false
is_nothing ForHelp = false
is_nothing ForVersion = false

-- a command is said to take an option, or asks for nothing with only that option
abbrev pub is_taken_or_refused : List ℕ → List ℕ → Bool
is_taken_or_refused command option = elim (own_options command) [
  | None ↦ true
  | Some own ↦ is_taken own option || is_nothing (asked_call (command ∷ option ∷ []))
]

-- this holds of each option that exists
unfoldable pub refuses_others : List ℕ → Bool
refuses_others command = list_all (is_taken_or_refused command) (options ++ letters)

-- words after a command and two more ask for nothing
abbrev pub is_nothing_behind : Together → List (List ℕ) → Bool
is_nothing_behind together words = is_nothing (asked_call (together.command ∷ codes "old" ∷ codes "new" ∷ words))

-- with an option and a word after it they ask for something with the flag, and for nothing without it
abbrev pub needs_flag : Together → List ℕ → Bool
needs_flag together option =
    not (is_nothing_behind together (together.flag ∷ option ∷ codes "5" ∷ [])) && is_nothing_behind together (option ∷ codes "5" ∷ [])

-- with an option and a word after it they ask for nothing with the flag, and for something without it
abbrev pub bars_flag : Together → List ℕ → Bool
bars_flag together option =
    is_nothing_behind together (together.flag ∷ option ∷ codes "5" ∷ []) && not (is_nothing_behind together (option ∷ codes "5" ∷ []))

-- this holds of the options that are said to go so
unfoldable pub go_as_told : Together → Bool
go_as_told together = list_all (needs_flag together) together.only_with && list_all (bars_flag together) together.only_without
