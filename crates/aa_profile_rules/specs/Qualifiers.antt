-- The qualifiers of a rule, which are words before it (apparmor.d(5), "Qualifier Blocks" and "Access Modes"; docs/policy.md, "Rules").
use Rattle.std.specs.Prelude.{true, false, ◌&&◌, if◌then◌else◌, List, [], ◌∷◌, Option, None, Some, Ok, codes}
use Rattle.aa_text_tokens.specs.Splicing.{Placed}
use Rattle.aa_profile_parsing.specs.Parts.{Part, refused}
use Rattle.aa_profile_parsing.specs.Tokens.{is_word_of}
use Rattle.aa_profile_parsing.specs.declared.fault.GrammarRefusal.TheVariants.{BadToken}
use Rattle.aa_profile_rules.specs.declared.qualifiers.Qualifiers.{Qualifiers}

-- no qualifier
abbrev pub unqualified : Qualifiers
unqualified = record { audit = false; allow = false; deny = false; owner = false }

-- some qualifiers and one more, where the token is one
abbrev pub qualified_by : Qualifiers → Placed → Option Qualifiers
qualified_by before token =
    if is_word_of (codes "audit") token then Some (record { audit = true; allow = before.allow; deny = before.deny; owner = before.owner }) else
    if is_word_of (codes "allow") token then Some (record { audit = before.audit; allow = true; deny = before.deny; owner = before.owner }) else
    if is_word_of (codes "deny") token then Some (record { audit = before.audit; allow = before.allow; deny = true; owner = before.owner }) else
    if is_word_of (codes "owner") token then Some (record { audit = before.audit; allow = before.allow; deny = before.deny; owner = true }) else
    None

-- The qualifiers with which tokens begin, and those before: in any order, each as often as one likes, but not `allow` with `deny`.
abbrev pub qualifiers : Qualifiers → List Placed → Part Qualifiers
qualifiers before [] = Ok (before, [])
qualifiers before (token ∷ tokens) = elim (qualified_by before token) [
  | None ↦ Ok (before, token ∷ tokens)
  | Some after ↦ if after.allow && after.deny then refused BadToken token else qualifiers after tokens
]
