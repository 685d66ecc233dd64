use Rattle.std.proofs.Common.{◌≡◌, ℕ, List, refl}
use Rattle.aatry_log_lines.specs.Entries.{entry_by}
use Rattle.aatry_log_lines.specs.Lines.{told_by}
use Rattle.aatry_log_lines.specs.Messages.{Broken, Message, NoMessage, Whole, message_in}
use Rattle.aatry_log_lines.specs.Selections.{Selection}
use Rattle.aatry_log_lines.proofs.laws.what_entries_tell.Goals as goal

-- by whether the line has a message
told_same : (selection : Selection) (line : List ℕ) (found : Message) → message_in line ≡ found → (entry_by selection line).told ≡ told_by line
told_same selection line NoMessage e = rw (e, entry_by, told_by) refl
told_same selection line (Whole message) e = rw (e, entry_by, told_by) refl
told_same selection line Broken e = rw (e, entry_by, told_by) refl

pub returns : goal.returns
returns c selection line = told_same selection line (message_in line) refl
