-- Rules on sockets (apparmor.d(5), "Network Rules"; docs/policy.md, "Rules").
use Rattle.std.specs.Prelude.{ℕ, Bool, not, ◌||◌, if◌then◌else◌, List, [], ◌∷◌, Option, None, Some, Ok}
use Rattle.aa_profile_data.specs.Domains.{domain_number, has_protocols}
use Rattle.aa_profile_data.specs.Kinds.{is_protocol, kind_number}
use Rattle.aa_text_tokens.specs.Splicing.{Placed}
use Rattle.aa_profile_parsing.specs.Parts.{Part, refused}
use Rattle.aa_profile_parsing.specs.Tokens.{is_word, text_of}
use Rattle.aa_profile_parsing.specs.declared.fault.GrammarRefusal.TheVariants.{BadNetwork}
use Rattle.aa_profile_rules.specs.declared.networks.Sockets.{Sockets}

-- all sockets
abbrev pub all_sockets : Sockets
all_sockets = record { domain = None; kind = None }

-- The sockets that a rule's first word names: those of a domain, or else of a type or a protocol. So `packet`, which is both, is the domain.
abbrev pub first_named : List ℕ → Option Sockets
first_named text = elim (domain_number text) [
  | Some domain ↦ Some (record { domain = Some domain; kind = None })
  | None ↦ elim (kind_number text) [ Some kind ↦ Some (record { domain = None; kind = Some kind }) | None ↦ None ]
]

-- a kind may follow a domain: a type each, a protocol those that have protocols
abbrev pub stands_behind : ℕ → ℕ → Bool
stands_behind domain kind = not (is_protocol kind) || has_protocols domain

-- the sockets that a domain and a second word name
abbrev pub named_in : ℕ → List ℕ → Option Sockets
named_in domain text = elim (kind_number text) [
  | None ↦ None
  | Some kind ↦ if stands_behind domain kind then Some (record { domain = Some domain; kind = Some kind }) else None
]

-- the sockets that a first and a second word name: none may follow a type or a protocol
abbrev pub second_named : Sockets → List ℕ → Option Sockets
second_named first text = elim first.domain [ None ↦ None | Some domain ↦ named_in domain text ]

-- the sockets of a rule after its first word, which one more may follow
abbrev pub sockets_behind : Sockets → List Placed → Part Sockets
sockets_behind first [] = Ok (first, [])
sockets_behind first (token ∷ tokens) =
    if is_word token.token.kind
    then elim (second_named first (text_of token)) [ None ↦ refused BadNetwork token | Some both ↦ Ok (both, tokens) ]
    else Ok (first, token ∷ tokens)

-- The sockets of a rule: those that up to two words name, or all where it has none.
abbrev pub sockets : List Placed → Part Sockets
sockets [] = Ok (all_sockets, [])
sockets (token ∷ tokens) =
    if is_word token.token.kind
    then elim (first_named (text_of token)) [ None ↦ refused BadNetwork token | Some first ↦ sockets_behind first tokens ]
    else Ok (all_sockets, token ∷ tokens)
