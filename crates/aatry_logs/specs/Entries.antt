-- What lines of a log hold, of which those can't be read that are longer than a line may be.
use Rattle.std.specs.Prelude.{ℕ, Bool, true, false, nat_lt, ◌&&◌, if◌then◌else◌, List, length}
use Rattle.aa_set_commands.specs.Limits.{longest_line}
use Rattle.aatry_log_lines.specs.Entries.{Entry, entry_by, unreadable_entry}
use Rattle.aatry_log_lines.specs.Lines.{Asks, Disconnected, Interpreted, Learning, NoRequest, OtherRequest, Told, Unreadable}
use Rattle.aatry_log_lines.specs.Selections.{Selection}

-- what a line of a log holds
abbrev pub entry_in_log : Selection → List ℕ → Entry
entry_in_log selection line = if nat_lt longest_line (length line) then unreadable_entry else entry_by selection line

-- a line holds something on AppArmor's requests
abbrev pub tells_something : Told → Bool
tells_something (Asks question) = true
tells_something OtherRequest = true
tells_something Disconnected = true
tells_something Learning = true
tells_something NoRequest = false
tells_something Unreadable = true
tells_something Interpreted = true

-- a line is passed over that holds something on AppArmor's requests
abbrev pub passes_over : Entry → Bool
passes_over entry = entry.is_passed_over && tells_something entry.told

-- what a line holds that isn't passed over; of a line that is, no request
abbrev pub asked_for : Entry → Told
asked_for entry = if entry.is_passed_over then NoRequest else entry.told
