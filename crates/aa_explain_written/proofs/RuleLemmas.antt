-- How the tokens of written rules are read.
use Rattle.std.proofs.Common.{◌≡◌, ℕ, ◌^◌, true, false, List, [], ◌∷◌, ◌++◌, None, Some, Ok, refl}
use Rattle.std.specs.Prelude.{codes}
use Rattle.aa_profile_data.specs.Capabilities.{capability_number}
use Rattle.aa_profile_data.specs.Domains.{domain_number}
use Rattle.aa_profile_data.specs.Kinds.{is_protocol, kind_number}
use Rattle.aa_profile_parsing.specs.declared.language.Language.{Language}
use Rattle.aa_profile_parsing.specs.declared.language.Language.TheVariants.{Four, Three}
use Rattle.aa_profile_rules.specs.Access.{access_of}
use Rattle.aa_profile_rules.specs.Qualifiers.{unqualified}
use Rattle.aa_profile_rules.specs.Rules.{OnCapabilities, OnFile, OnNetwork, rule}
use Rattle.aa_profile_rules.specs.declared.access.Access.{Access}
use Rattle.aa_profile_rules.specs.declared.qualifiers.Qualifiers.{Qualifiers}
use Rattle.aa_text_tokens.specs.Splicing.{Placed}
use Rattle.aa_explain_written.proofs.Spelling.{Spans, a_comma, in_quotes, placed, placed_at, word}

-- the words before a rule that is the owner's alone
abbrev pub owners : Qualifiers
owners = record { audit = false; allow = false; deny = false; owner = true }

-- a rule on files
pub read-file : (language : Language) (file : ℕ) (spans : Spans) (body access : List ℕ) (found : Access) (more : List Placed) → access_of false access ≡ Ok found
    → rule language (placed_at file spans (word (codes "file") ∷ in_quotes body ∷ word access ∷ a_comma ∷ []) ++ more)
    ≡ Ok (OnFile unqualified (placed file (spans 1) (in_quotes body)) found None, more)
read-file Three file spans body access found more h = rw h refl
read-file Four file spans body access found more h = rw h refl

-- one on the owner's
pub read-owned : (language : Language) (file : ℕ) (spans : Spans) (body access : List ℕ) (found : Access) (more : List Placed) → access_of false access ≡ Ok found
    → rule language (placed_at file spans (word (codes "owner") ∷ word (codes "file") ∷ in_quotes body ∷ word access ∷ a_comma ∷ []) ++ more)
    ≡ Ok (OnFile owners (placed file (spans 2) (in_quotes body)) found None, more)
read-owned Three file spans body access found more h = rw h refl
read-owned Four file spans body access found more h = rw h refl

-- a rule on a capability
pub read-capability : (language : Language) (file : ℕ) (spans : Spans) (name : List ℕ) (number : ℕ) (more : List Placed) → capability_number name ≡ Some number
    → rule language (placed_at file spans (word (codes "capability") ∷ word name ∷ a_comma ∷ []) ++ more)
    ≡ Ok (OnCapabilities unqualified (placed file (spans 0) (word (codes "capability"))) (2 ^ number), more)
read-capability Three file spans name number more h = rw h refl
read-capability Four file spans name number more h = rw h refl

-- a rule on the sockets of a domain and a type
pub read-network : (language : Language) (file : ℕ) (spans : Spans) (domain kind : List ℕ) (number type : ℕ) (more : List Placed)
    → domain_number domain ≡ Some number → kind_number kind ≡ Some type → is_protocol type ≡ false
    → rule language (placed_at file spans (word (codes "network") ∷ word domain ∷ word kind ∷ a_comma ∷ []) ++ more)
    ≡ Ok (OnNetwork unqualified (placed file (spans 0) (word (codes "network"))) (record { domain = Some number; kind = Some type }), more)
read-network Three file spans domain kind number type more d k t = rw (d, k, t) refl
read-network Four file spans domain kind number type more d k t = rw (d, k, t) refl
