-- What becomes of a journal of slots where a change is asked for.
use Rattle.std.specs.Prelude.{◌≡◌, List, length, Option, Result, Ok, Err}
use Rattle.aa_decide_ready.specs.Entries.{Loaded}
use Rattle.aa_history.specs.Machine.{Kept, committed}
use Rattle.aa_set_commands.specs.Refusal.{plain}
use Rattle.aa_set_commands.specs.declared.refusal.Refusal.{Refusal}
use Rattle.aa_set_commands.specs.declared.refusal.RefusalKind.TheVariants.{Memory}
use Rattle.aa_set_parts.specs.Parts.{Reaching, after}

-- A change was made and kept, or memory ran out; or it was refused before. After each refusal the journal is as it was.
abbrev pub Makes : (old new : Kept (List (Option Loaded))) → Result Reaching Refusal → Result (Unit {0}) Refusal → Type 0
Makes old new (Ok exchange) (Ok done) = new ≡ committed old (after old.machine.now exchange.parts) (length exchange.parts)
Makes old new (Ok exchange) (Err refusal) = (refusal ≡ plain Memory) × (new ≡ old)
Makes old new (Err cause) (Ok done) = ⊥
Makes old new (Err cause) (Err refusal) = (refusal ≡ cause) × (new ≡ old)
