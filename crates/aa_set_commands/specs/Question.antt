-- Questions: what the words after `ask` ask (docs/commands.md).
use Rattle.std.specs.Prelude.{ℕ, ◌<◌, Bool, true, false, ◌&&◌, not, if◌then◌else◌, List, [], ◌∷◌, Option}
use Rattle.std.specs.Prelude.{None, Some, Result, Ok, Err, codes, option_and_then}
use Rattle.std.specs.Str.{bytes_eq}
use Rattle.aa_bytes.specs.Bytes.{slash}
use Rattle.aa_bytes.specs.Texts.{begins_with_byte, has_byte}
use Rattle.aa_profile_data.specs.Access.{asked_letters, needs_of}
use Rattle.aa_profile_data.specs.Request.{Request, ForCapability, ForFile, ForSockets}
use Rattle.aa_profile_data.specs.Capabilities.{capability_number}
use Rattle.aa_profile_data.specs.Domains.{domain_number}
use Rattle.aa_profile_data.specs.Kinds.{is_protocol, kind_number}
use Rattle.aa_set_commands.specs.Refusal.{plain}
use Rattle.aa_set_commands.specs.declared.question.Question.{Question as CodeQuestion}
use Rattle.aa_set_commands.specs.declared.question.Question.TheVariants.{Cap, Exec, File, Net}
use Rattle.aa_set_commands.specs.declared.refusal.Refusal.{Refusal}
use Rattle.aa_set_commands.specs.declared.refusal.RefusalKind.TheVariants.{BadCommand, BadRequest}

-- The question: whether a task has access, confined as the asker's full name says, or by the word `unconfined` not at all; or under which profile a
-- program runs that such a task starts.
pub data Question : Type 0 where
  OfAccess : (who : List ℕ) (request : Request) → Question
  OfExec : (who : List ℕ) (owned : Bool) (path : List ℕ) → Question

-- a question of the code
abbrev pub seen_question : CodeQuestion → Question
seen_question (File who needs owned path) = OfAccess who.now (ForFile needs.0 owned path.now)
seen_question (Exec who owned path) = OfExec who.now owned path.now
seen_question (Cap who number) = OfAccess who.now (ForCapability number)
seen_question (Net who domain kind) = OfAccess who.now (ForSockets domain kind)

-- a question's needs consist of letters that may be asked for, and its numbers are in the tables
abbrev pub IsWellFormed : CodeQuestion → Type 0
IsWellFormed (File who needs owned path) = needs.0 < asked_letters
IsWellFormed (Exec who owned path) = Unit {0}
IsWellFormed (Cap who number) = number < 41
IsWellFormed (Net who domain kind) = (domain < 44) × (kind < 6)

-- whether the file is owned
abbrev pub owned_of : List ℕ → Option Bool
owned_of word = if bytes_eq word (codes "owner") then Some true else (if bytes_eq word (codes "other") then Some false else None)

-- a path begins with `/` and holds no zero byte
abbrev pub is_path : List ℕ → Bool
is_path word = begins_with_byte slash word && not (has_byte 0 word)

abbrev pub file_question : List ℕ → Option ℕ → Option Bool → List ℕ → Result Question Refusal
file_question who (Some needs) (Some owned) path = if is_path path then Ok (OfAccess who (ForFile needs owned path)) else Err (plain BadRequest)
file_question who None owned path = Err (plain BadRequest)
file_question who (Some needs) None path = Err (plain BadRequest)

abbrev pub exec_question : List ℕ → Option Bool → List ℕ → Result Question Refusal
exec_question who (Some owned) path = if is_path path then Ok (OfExec who owned path) else Err (plain BadRequest)
exec_question who None path = Err (plain BadRequest)

abbrev pub capability_question : List ℕ → Option ℕ → Result Question Refusal
capability_question who (Some number) = Ok (OfAccess who (ForCapability number))
capability_question who None = Err (plain BadRequest)

-- the number of the socket type of a name, which no protocol has
abbrev pub type_number : List ℕ → Option ℕ
type_number name = option_and_then (λ kind. if is_protocol kind then None else Some kind) (kind_number name)

abbrev pub socket_question : List ℕ → Option ℕ → Option ℕ → Result Question Refusal
socket_question who (Some domain) (Some kind) = Ok (OfAccess who (ForSockets domain kind))
socket_question who None kind = Err (plain BadRequest)
socket_question who (Some domain) None = Err (plain BadRequest)

-- What the words after `ask` ask: `cap NAME CAPABILITY`, `net NAME DOMAIN TYPE`, `exec NAME OWNED PATH`, or `file NAME ACCESS OWNED PATH`.
abbrev pub question_of : List (List ℕ) → Result Question Refusal
question_of (kind ∷ who ∷ name ∷ []) =
    if bytes_eq kind (codes "cap") then capability_question who (capability_number name) else Err (plain BadCommand)
question_of (kind ∷ who ∷ third ∷ fourth ∷ []) =
    if bytes_eq kind (codes "net") then socket_question who (domain_number third) (type_number fourth) else
    if bytes_eq kind (codes "exec") then exec_question who (owned_of third) fourth else Err (plain BadCommand)
question_of (kind ∷ who ∷ access ∷ owned ∷ path ∷ []) =
    if bytes_eq kind (codes "file") then file_question who (needs_of access) (owned_of owned) path else Err (plain BadCommand)
question_of _ = Err (plain BadCommand)
