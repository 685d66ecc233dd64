-- The lines that log answers, as the kernel's log shows them (docs/commands.md, "Audit lines"). A line has keys with values: numbers, names in
-- quotes, and text that is written in quotes or in hexadecimal.
use Rattle.std.specs.Prelude.{ℕ, List, [], ◌∷◌, ◌++◌, None, Some, codes}
use Rattle.std.specs.Fmt.{decimal}
use Rattle.aa_profile_data.specs.Access.{EXEC, letters_of}
use Rattle.aa_profile_data.specs.Request.{Request, ForCapability, ForFile, ForSockets}
use Rattle.aa_bytes.specs.Bytes.{line_feed}
use Rattle.aa_profile_data.specs.Capabilities.{capability_name}
use Rattle.aa_profile_data.specs.Domains.{domain_name}
use Rattle.aa_profile_data.specs.Kinds.{kind_name}
use Rattle.aa_profile_data.specs.TableNames.{name_or_none}
use Rattle.aa_bytes.specs.Quoting.{quoted, written_text}
use Rattle.aa_decide_rules.specs.declared.verdict.Tag.{Tag}
use Rattle.aa_decide_rules.specs.declared.verdict.Tag.TheVariants.{Allowed, Audit, Denied}
use Rattle.aa_decide_rules.specs.declared.verdict.Verdict.{Verdict}

abbrev pub tag_word : Tag → List ℕ
tag_word Denied = codes "DENIED"
tag_word Allowed = codes "ALLOWED"
tag_word Audit = codes "AUDIT"

-- the operation that a request is logged as
abbrev pub operation : Request → List ℕ
operation (ForFile needs owned path) = codes "file"
operation (ForCapability number) = codes "capable"
operation (ForSockets domain kind) = codes "net"

-- the key of the mask that is logged: what is logged was denied, let through in complain mode alone, or allowed
abbrev pub mask_key : Tag → List ℕ
mask_key Audit = codes " audit_mask="
mask_key _ = codes " denied_mask="

-- a requested file: its path, the letters that were needed, and the letters that are logged
abbrev pub file_subject : Tag → ℕ → ℕ → List ℕ → List ℕ
file_subject tag mask needs path =
    codes " name=" ++ written_text path ++ codes " requested_mask=" ++ quoted (letters_of needs) ++ mask_key tag ++ quoted (letters_of mask)

abbrev pub capability_subject : ℕ → List ℕ
capability_subject number = codes " capability=" ++ decimal number ++ codes " capname=" ++ quoted (name_or_none (capability_name number))

abbrev pub socket_subject : ℕ → ℕ → List ℕ
socket_subject domain kind =
    codes " family=" ++ quoted (name_or_none (domain_name domain)) ++ codes " sock_type=" ++ quoted (name_or_none (kind_name kind))

-- what was requested
abbrev pub subject : Tag → ℕ → Request → List ℕ
subject tag mask (ForFile needs owned path) = file_subject tag mask needs path
subject tag mask (ForCapability number) = capability_subject number
subject tag mask (ForSockets domain kind) = socket_subject domain kind

-- how the line of a tag begins: with the operation, and the asker, by full name
abbrev pub beginning : Tag → List ℕ → List ℕ → List ℕ
beginning tag operation asker =
    codes "apparmor=" ++ quoted (tag_word tag) ++ codes " operation=" ++ quoted operation ++ codes " profile=" ++ written_text asker

-- the line of a tag: the asker, by full name, the request, and the needs that are logged
abbrev pub tagged_line : List ℕ → Request → Tag → ℕ → List ℕ
tagged_line asker request tag mask = beginning tag (operation request) asker ++ subject tag mask request ++ line_feed ∷ []

-- the line that logs a verdict; one without a tag isn't logged
abbrev pub log_line : List ℕ → Request → Verdict → List ℕ
log_line asker request verdict = elim verdict.tag [
  | None ↦ []
  | Some tag ↦ tagged_line asker request tag verdict.mask.0
]

-- the line of a tag on the start of the program of a path
abbrev pub tagged_exec_line : List ℕ → List ℕ → Tag → ℕ → List ℕ
tagged_exec_line asker path tag mask = beginning tag (codes "exec") asker ++ file_subject tag mask EXEC path ++ line_feed ∷ []

-- the line that logs a verdict on that start
abbrev pub exec_line : List ℕ → List ℕ → Verdict → List ℕ
exec_line asker path verdict = elim verdict.tag [
  | None ↦ []
  | Some tag ↦ tagged_exec_line asker path tag verdict.mask.0
]
