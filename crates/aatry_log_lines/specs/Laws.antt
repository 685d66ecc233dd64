-- Definitions for the laws on requests, and on the lines that log them.
use Rattle.std.specs.Prelude.{◌≡◌, ◌<◌, ℕ, true, false, List}
use Rattle.hex.specs.Hex.{IsBytes}
use Rattle.aa_profile_data.specs.Access.{asked_letters}
use Rattle.aa_profile_data.specs.Request.{ForCapability, ForFile, ForSockets, Request}
use Rattle.aa_set_commands.specs.Question.{OfAccess, Question, is_path}

-- A request that can be asked and logged: it needs some letter, and its path is one, as `ask` takes it.
abbrev pub CanBeLogged : Request → Type 0
CanBeLogged (ForFile needs owned path) = (0 < needs) × (needs < asked_letters) × IsBytes path × (is_path path ≡ true)
CanBeLogged (ForCapability number) = number < 41
CanBeLogged (ForSockets domain kind) = (domain < 44) × (kind < 6)

-- the question of the line that logs a request: the same of the same profile, except that no line has the file's owner
abbrev pub as_logged : List ℕ → Request → Question
as_logged asker (ForFile needs owned path) = OfAccess asker (ForFile needs false path)
as_logged asker (ForCapability number) = OfAccess asker (ForCapability number)
as_logged asker (ForSockets domain kind) = OfAccess asker (ForSockets domain kind)
