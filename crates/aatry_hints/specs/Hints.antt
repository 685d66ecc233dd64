-- The hints for words that ask for nothing, where it can be seen what was meant.
use Rattle.std.specs.Prelude.{ℕ, Bool, false, if◌then◌else◌, List, [], ◌∷◌, ◌++◌, codes, Option, None, Some, unwrap_or}
use Rattle.std.specs.List.{list_any}
use Rattle.std.specs.Str.{bytes_eq}
use Rattle.aa_bytes.specs.Texts.{begins_with, is_empty}
use Rattle.aatry_words.specs.Near.{nearest}
use Rattle.aatry_report.specs.Shown.{shown}
use Rattle.aatry_hints.specs.Commands.{commands, not_taken_by, own_options_by, unknown_in}
use Rattle.aatry_hints.specs.Options.{options}
use Rattle.aatry_hints.specs.Parts.{Part, command_in, last_behind, parts}
use Rattle.aatry_hints.specs.Together.{together_hint}
use Rattle.aatry_hints.specs.Values.{BadValue, bad_value_in, lacking, values_told}

-- a word is the pair that each audit line of a request has
abbrev pub is_pair : List ℕ → Bool
is_pair word = begins_with (codes "apparmor=") word

-- words are those of a line of a log, into which a shell cut it: there are several, and that pair is one of them
abbrev pub is_cut_line : List (List ℕ) → Bool
is_cut_line [] = false
is_cut_line (line ∷ []) = false
is_cut_line (word ∷ other ∷ words) = list_any is_pair (word ∷ other ∷ words)

-- the hint for such words
abbrev pub cut_line_told : List ℕ
cut_line_told = codes "aatry: quote a log line as one word: aatry why 'LINE'; or pipe it into aatry log\n"

-- the hint for words, if they are such words
abbrev pub cut_line : List (List ℕ) → Option (List ℕ)
cut_line words = if is_cut_line words then Some cut_line_told else None

-- a name that was found for a word, if it differs from the word
abbrev pub other_than : List ℕ → Option (List ℕ) → Option (List ℕ)
other_than word None = None
other_than word (Some name) = if bytes_eq name word then None else Some name

-- the command that a word may stand for: none where it is one
abbrev pub command_meant : List ℕ → Option (List ℕ)
command_meant word = other_than word (nearest word commands)

-- the hint for a word in place of a command, if it may stand for one
abbrev pub no_command_told : List ℕ → Option (List ℕ) → Option (List ℕ)
no_command_told word None = None
no_command_told word (Some near) = Some (codes "aatry: unknown command " ++ shown word ++ codes ": did you mean " ++ shown near ++ codes "?\n")

-- the hint for a word that is no command, where one is near
abbrev pub misspelled_by : Option (List ℕ) → Option (List ℕ)
misspelled_by None = None
misspelled_by (Some word) = no_command_told word (command_meant word)

-- the hint for a name that no option has, with the option that may have been meant
abbrev pub no_option_told : List ℕ → Option (List ℕ) → List ℕ
no_option_told name None = codes "aatry: unknown option " ++ shown name ++ codes "\n"
no_option_told name (Some near) = codes "aatry: unknown option " ++ shown name ++ codes ": did you mean " ++ shown near ++ codes "?\n"

abbrev pub unknown_told : Option (List ℕ) → Option (List ℕ)
unknown_told None = None
unknown_told (Some name) = Some (no_option_told name (nearest name options))

-- the hint for a command and an option that it doesn't take, if there is one
abbrev pub not_taken_told : Option (List ℕ) → Option (List ℕ) → Option (List ℕ)
not_taken_told (Some command) (Some name) = Some (codes "aatry: " ++ shown command ++ codes " takes no " ++ shown name ++ codes "\n")
not_taken_told (Some command) None = None
not_taken_told None name = None

-- the hint for an option whose value is missing
abbrev pub wanted_told : List ℕ → List ℕ
wanted_told name = codes "aatry: a value is required after " ++ shown name ++ codes "\n"

-- the hint for an option with a value that it doesn't take, if there is one: an empty value counts as missing
abbrev pub refused_told : List ℕ → List ℕ → List ℕ
refused_told name value = codes "aatry: " ++ shown name ++ codes " takes " ++ values_told name ++ codes ", not " ++ shown value ++ codes "\n"

abbrev pub bad_value_told : Option BadValue → Option (List ℕ)
bad_value_told None = None
bad_value_told (Some bad) = Some (if is_empty bad.value then wanted_told bad.name else refused_told bad.name bad.value)

-- the hint for an option at the end that lacks its value
abbrev pub no_value_told : Option (List ℕ) → Option (List ℕ)
no_value_told None = None
no_value_told (Some name) = Some (wanted_told name)

-- the first of two lines that there is
abbrev pub line_or : Option (List ℕ) → Option (List ℕ) → Option (List ℕ)
line_or (Some line) other = Some line
line_or None other = other

-- the hint for the values among parts, by the word in place of a command: for one that its option doesn't take, or one that is missing
abbrev pub values_hint : Option (List ℕ) → List Part → Option (List ℕ)
values_hint command parts =
    line_or (bad_value_told (bad_value_in (unwrap_or (own_options_by command) []) parts)) (no_value_told (lacking (last_behind None parts)))

-- the hint for options that don't go together, or else for values
abbrev pub going_hint : Option (List ℕ) → List Part → Option (List ℕ)
going_hint command parts = line_or (together_hint command parts) (values_hint command parts)

-- the hint for options that the command doesn't take, or else for those that don't go together, or for values
abbrev pub taken_hint : Option (List ℕ) → List Part → Option (List ℕ)
taken_hint command parts = line_or (not_taken_told command (not_taken_by (own_options_by command) parts)) (going_hint command parts)

-- the hint for options that don't exist, or else for all other faults of options and values
abbrev pub options_hint : Option (List ℕ) → List Part → Option (List ℕ)
options_hint command parts = line_or (unknown_told (unknown_in parts)) (taken_hint command parts)

-- the hint for all words: for the command first, or else for the options
abbrev pub hint_of : List Part → Option (List ℕ)
hint_of parts = line_or (misspelled_by (command_in parts)) (options_hint (command_in parts) parts)

abbrev pub hint : List (List ℕ) → Option (List ℕ)
hint words = hint_of (parts words)
