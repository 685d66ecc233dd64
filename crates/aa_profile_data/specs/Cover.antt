-- What rules cover (apparmor.d(5), "Execute Rules", "Capability Rules" and "Network Rules"; docs/policy.md, "Rules").
use Rattle.std.specs.Prelude.{ℕ, Bool, true, not, ◌&&◌, ◌||◌, ◌==◌, Option, None, Some, is_some}
use Rattle.std.specs.Int.{bit_at}
use Rattle.aa_profile_data.specs.Access.{EXEC, has}
use Rattle.aa_profile_data.specs.Domains.{has_protocols}
use Rattle.aa_profile_data.specs.Kinds.{is_protocol, type_of}
use Rattle.aa_profile_data.specs.declared.profile.CapRule.{CapRule}
use Rattle.aa_profile_data.specs.declared.profile.FileRule.{FileRule}
use Rattle.aa_profile_data.specs.declared.profile.NetRule.{NetRule}

-- a rule on files covers the start of programs: it has an exec word, or a bare `x`
abbrev pub covers_exec : FileRule → Bool
covers_exec rule = is_some rule.exec || has rule.access.0 EXEC

-- a set of numbers has this one: its bit is set
abbrev pub has_number : ℕ → ℕ → Bool
has_number set number = bit_at set number == 1

-- a rule covers the capability of a number
abbrev pub covers_capability : ℕ → CapRule → Bool
covers_capability number rule = has_number rule.caps number

-- a rule's domain covers a domain; a missing one covers all
abbrev pub covers_domain : Option ℕ → ℕ → Bool
covers_domain None domain = true
covers_domain (Some own) domain = own == domain

-- a rule's kind covers a type in a domain; a missing one covers all, and a protocol covers its type in the domains that have protocols
abbrev pub covers_kind : Option ℕ → ℕ → ℕ → Bool
covers_kind None domain kind = true
covers_kind (Some own) domain kind = type_of own == kind && (not (is_protocol own) || has_protocols domain)

-- a rule covers sockets of a type in a domain
abbrev pub covers_socket : ℕ → ℕ → NetRule → Bool
covers_socket domain kind rule = covers_domain rule.domain domain && covers_kind rule.kind domain kind
