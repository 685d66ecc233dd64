-- What a line of a log holds: its question, if it makes one, when it was logged, and whether the line is passed over.
use Rattle.std.specs.Prelude.{ℕ, Bool, false, List, Option, None}
use Rattle.aatry_log_lines.specs.Lines.{Told, Unreadable, seen_line, told_by_message}
use Rattle.aatry_log_lines.specs.Messages.{Broken, NoMessage, Whole, message_in}
use Rattle.aatry_log_lines.specs.Selections.{Selection, is_passed_over}
use Rattle.aatry_log_lines.specs.Stamps.{time_in}
use Rattle.aatry_log_lines.specs.declared.entries.LogEntry.{LogEntry}

pub record Entry : Type 0 where
  pub told : Told
  pub time : Option ℕ
  pub is_passed_over : Bool

-- the entry of the code
abbrev pub seen_entry : LogEntry → Entry
seen_entry entry = record { told = seen_line entry.told; time = entry.time; is_passed_over = entry.is_passed_over }

-- the entry of a message
abbrev pub entry_of : Selection → List ℕ → Entry
entry_of selection message =
    record { told = told_by_message message; time = time_in message; is_passed_over = is_passed_over selection message }

-- the entry of a line that can't be read: it isn't known what it asks, nor when it was logged, nor whether it is selected
abbrev pub unreadable_entry : Entry
unreadable_entry = record { told = Unreadable; time = None; is_passed_over = false }

-- the entry of a line: by its message, where it is a record of the journal, and else by the line itself
abbrev pub entry_by : Selection → List ℕ → Entry
entry_by selection line =
    elim (message_in line) [ NoMessage ↦ entry_of selection line | Whole message ↦ entry_of selection message | Broken ↦ unreadable_entry ]
