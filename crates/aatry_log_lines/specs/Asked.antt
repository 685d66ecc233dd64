-- The questions of lines, as the code holds them.
use Rattle.std.proofs.Props.{props}
use Rattle.std.specs.Prelude.{◌<◌}
use Rattle.aa_profile_data.specs.Access.{asked_letters}
use Rattle.aa_profile_data.specs.Request.{ForCapability, ForFile, ForSockets}
use Rattle.aa_set_commands.specs.Question.{OfAccess, OfExec, Question}
use Rattle.aatry_log_lines.specs.Values.{seen_text}
use Rattle.aatry_log_lines.specs.declared.asked.Asked.{Asked}
use Rattle.aatry_log_lines.specs.declared.asked.Asked.TheVariants.{Cap, Exec, File, Net}

-- the question of the code
abbrev pub question_of : Asked → Question
question_of (File who needs owned path) = OfAccess (seen_text who) (ForFile needs.0 owned (seen_text path))
question_of (Exec who owned path) = OfExec (seen_text who) owned (seen_text path)
question_of (Cap who number) = OfAccess (seen_text who) (ForCapability number)
question_of (Net who domain kind) = OfAccess (seen_text who) (ForSockets domain kind)

-- a question needs only letters that may be asked for, and its numbers are in the tables
abbrev pub IsWellAsked : Asked → Type 0
IsWellAsked (File who needs owned path) = needs.0 < asked_letters
IsWellAsked (Exec who owned path) = Unit {0}
IsWellAsked (Cap who number) = number < 41
IsWellAsked (Net who domain kind) = (domain < 44) × (kind < 6)

-- that is a proposition: it holds in one way at most
pub well_asked-prop : (asked : Asked) → IsProp (IsWellAsked asked)
well_asked-prop (File who needs owned path) = hlevel props
well_asked-prop (Exec who owned path) = hlevel props
well_asked-prop (Cap who number) = hlevel props
well_asked-prop (Net who domain kind) = hlevel props
