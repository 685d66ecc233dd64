-- Rules on capabilities (apparmor.d(5), "Capability Rules"; docs/policy.md, "Rules"). Bit n of a set is that of the capability of number n.
use Rattle.std.specs.Prelude.{ℕ, ◌^◌, ◌-◌, if◌then◌else◌, List, [], ◌∷◌, None, Some, Ok}
use Rattle.std.specs.Int.RustNames.{bit_or}
use Rattle.aa_profile_data.specs.Capabilities.{capability_number}
use Rattle.aa_text_tokens.specs.Splicing.{Placed}
use Rattle.aa_profile_parsing.specs.Parts.{Part, refused}
use Rattle.aa_profile_parsing.specs.Tokens.{is_word, text_of}
use Rattle.aa_profile_parsing.specs.declared.fault.GrammarRefusal.TheVariants.{BadCapability}

-- all capabilities: the lowest 41 bits
abbrev pub all_capabilities : ℕ
all_capabilities = 2 ^ 41 - 1

-- a set with the capability of a number
abbrev pub with_capability : ℕ → ℕ → ℕ
with_capability set number = bit_or set (2 ^ number)

-- the set of the capabilities that words name, with those before; a name may be repeated
abbrev pub named_capabilities : ℕ → List Placed → Part ℕ
named_capabilities set [] = Ok (set, [])
named_capabilities set (token ∷ tokens) =
    if is_word token.token.kind
    then elim (capability_number (text_of token)) [
      | None ↦ refused BadCapability token
      | Some number ↦ named_capabilities (with_capability set number) tokens
    ]
    else Ok (set, token ∷ tokens)

-- The capabilities of a rule: those that its words name, or all where it has none.
abbrev pub capabilities : List Placed → Part ℕ
capabilities [] = Ok (all_capabilities, [])
capabilities (token ∷ tokens) =
    if is_word token.token.kind then named_capabilities 0 (token ∷ tokens) else Ok (all_capabilities, token ∷ tokens)
