-- Which lines of a log count. A line is passed over that shows by itself that it isn't one of these; by what it doesn't have it isn't passed over.
use Rattle.std.specs.Prelude.{ℕ, Bool, false, not, nat_lt, ◌&&◌, ◌||◌, List, Option, None, Some, codes, drop, length, option_and_then, option_map}
use Rattle.std.specs.Str.{bytes_eq}
use Rattle.aa_bytes.specs.Texts.{begins_with, is_empty}
use Rattle.aatry_log_lines.specs.Lines.{Asker, One, Several, asker_of, tells_request}
use Rattle.aatry_log_lines.specs.Pairs.{value_of}
use Rattle.aatry_log_lines.specs.Stamps.{time_in}
use Rattle.aatry_log_lines.specs.Values.{quoted_text}
use Rattle.aatry_log_lines.specs.declared.selections.Selection.{Selection as CodeSelection}

-- Whether only the denied ones count; the profile whose requests count, with those of its children and hats; and the time from which on they do.
pub record Selection : Type 0 where
  pub denied : Bool
  pub profile : Option (List ℕ)
  pub since : Option ℕ

-- the selection of the code
abbrev pub seen_selection : CodeSelection → Selection
seen_selection selection = record { denied = selection.denied; profile = option_map (λ name. name.now) selection.profile; since = selection.since }

-- the word of a line that is the answer to a request, or something else, of what the kernel logs or a program
abbrev pub word_in : List ℕ → Option (List ℕ)
word_in line = elim (value_of (codes "apparmor=") line) [
  | Some value ↦ quoted_text value
  | None ↦ option_and_then quoted_text (value_of (codes "msg='apparmor=") line)
]

-- a word says that a request wasn't denied
abbrev pub is_undenied : List ℕ → Bool
is_undenied word = tells_request word && not (bytes_eq word (codes "DENIED"))

-- a line logs a request that wasn't denied
abbrev pub tells_undenied : List ℕ → Bool
tells_undenied line = elim (word_in line) [ None ↦ false | Some word ↦ is_undenied word ]

-- an asker is the profile of a name, or a child or hat of it: after the name there is nothing, or the name of one
abbrev pub ends_name : List ℕ → Bool
ends_name rest = is_empty rest || begins_with (codes "//") rest

abbrev pub is_within : List ℕ → List ℕ → Bool
is_within name who = begins_with name who && ends_name (drop (length name) who)

-- the asker is one by a name that can be read, and isn't the profile of a name, or a child or hat of it
abbrev pub is_another : List ℕ → Asker → Bool
is_another name (One (Some who)) = not (is_within name who)
is_another name (One None) = false
is_another name Several = false

-- the asker of a line is another than the selected profile, if one is selected
abbrev pub is_of_another : Option (List ℕ) → List ℕ → Bool
is_of_another None line = false
is_of_another (Some name) line = is_another name (asker_of line)

-- a time is before the first one that counts, if both are there
abbrev pub is_before : Option ℕ → Option ℕ → Bool
is_before (Some since) (Some time) = nat_lt time since
is_before _ _ = false

-- a line is passed over
abbrev pub is_passed_over : Selection → List ℕ → Bool
is_passed_over selection line =
    is_before selection.since (time_in line) || (selection.denied && tells_undenied line) || is_of_another selection.profile line
