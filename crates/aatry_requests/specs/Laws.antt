-- Definitions for the laws on questions and requests.
use Rattle.std.specs.Prelude.{◌<◌}
use Rattle.hex.specs.Hex.{IsBytes}
use Rattle.aa_profile_data.specs.Access.{asked_letters}
use Rattle.aa_profile_data.specs.Request.{ForCapability, ForFile, ForSockets, Request}
use Rattle.aa_set_commands.specs.Question.{OfAccess, OfExec, Question}

-- a request needs only letters that may be asked for, its numbers are in the tables, and its path is bytes
abbrev pub CanBeAskedFor : Request → Type 0
CanBeAskedFor (ForFile needs owned path) = (needs < asked_letters) × IsBytes path
CanBeAskedFor (ForCapability number) = number < 41
CanBeAskedFor (ForSockets domain kind) = (domain < 44) × (kind < 6)

-- a question has such a request, and the asker's name is bytes
abbrev pub CanBeAsked : Question → Type 0
CanBeAsked (OfAccess who request) = IsBytes who × CanBeAskedFor request
CanBeAsked (OfExec who owned path) = IsBytes who × IsBytes path
