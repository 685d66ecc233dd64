-- The numbers in rules: those of the tables.
use Rattle.std.proofs.Common.{◌≡◌, ℕ, ◌<◌, ◌^◌, Bool, true, false, List, [], ◌∷◌, Option, None, Some, Ok, refl, arith}
use Rattle.std.specs.Prelude.{IfSome, nat_lt, if◌then◌else◌, codes}
use Rattle.std.proofs.lemmas.Bool.{and_parts, lt-ltb, ltb-true}
use Rattle.std.proofs.lemmas.Nat.{or_lt, pow_below}
use Rattle.std.proofs.lemmas.Result.{IfOk-weaker}
use Rattle.aa_text_tokens.specs.Splicing.{Placed}
use Rattle.aa_profile_data.specs.Capabilities.{capability_number}
use Rattle.aa_profile_data.specs.Domains.{domain_number}
use Rattle.aa_profile_data.specs.Kinds.{kind_number}
use Rattle.aa_profile_data.specs.KnownNumbers.{is_kind}
use Rattle.aa_profile_parsing.specs.Parts.{Part, refused}
use Rattle.aa_profile_parsing.specs.Tokens.{is_word, is_word_of, text_of}
use Rattle.aa_profile_parsing.specs.declared.fault.GrammarRefusal.TheVariants.{BadCapability, BadNetwork, BadToken, LeftOut}
use Rattle.aa_profile_parsing.specs.declared.language.Language.{Language}
use Rattle.aa_profile_parsing.specs.declared.language.Language.TheVariants.{Four, Three}
use Rattle.aa_profile_rules.specs.Capabilities.{all_capabilities, capabilities, named_capabilities, with_capability}
use Rattle.aa_profile_rules.specs.Networks.{all_sockets, first_named, named_in, second_named, sockets, sockets_behind, stands_behind}
use Rattle.aa_profile_rules.specs.Qualifiers.{qualifiers, unqualified}
use Rattle.aa_profile_rules.specs.RuleNumbers.{are_sockets, has_known_numbers}
use Rattle.aa_profile_rules.specs.Rules.{All, OnFile, Rule, all_rule, common_rule, ended, is_left_out, rule, rule_behind, wider_rule}
use Rattle.aa_profile_rules.specs.Targets.{target}
use Rattle.aa_profile_rules.specs.declared.networks.Sockets.{Sockets}
use Rattle.aa_profile_rules.specs.declared.qualifiers.Qualifiers.{Qualifiers}
use Rattle.aa_profile_rules.proofs.RuleLemmas.{Given, Reads, common_rule-has, reads-any, reads-either, reads-ended, reads-every, reads-followed}

-- a rule has no number that doesn't stand in the tables
abbrev Known : Rule → Type 0
Known rule = has_known_numbers rule ≡ true

-- the numbers of sockets stand in the tables
abbrev AreSockets : Sockets → Type 0
AreSockets found = are_sockets found ≡ true

-- the numbers of names stand in the tables
pub record NamesKnown : Type 0 where
  pub capabilities : (name : List ℕ) → IfSome (capability_number name) (λ number. number < 41)
  pub domains : (name : List ℕ) → IfSome (domain_number name) (λ number. number < 44)
  pub kinds : (name : List ℕ) → IfSome (kind_number name) (λ number. number < 9)

module _ (known : NamesKnown) where
  named_capabilities-known : (set : ℕ) (tokens : List Placed) → set < 2 ^ 41 → Reads (λ set. set < 2 ^ 41) (named_capabilities set tokens)
  named_capabilities-known set [] h = h
  named_capabilities-known set (token ∷ tokens) h =
      by (is_word token.token.kind) (capability_number (text_of token)) (known.capabilities (text_of token)) (λ next. named_capabilities-known next tokens)
    where
      told : Bool → Option ℕ → Part ℕ
      told word number =
          if word
          then elim number [ None ↦ refused BadCapability token | Some number ↦ named_capabilities (with_capability set number) tokens ]
          else Ok (set, token ∷ tokens)

      by : (word : Bool) (number : Option ℕ) → IfSome number (λ number. number < 41) → ((next : ℕ) → next < 2 ^ 41 → Reads (λ set. set < 2 ^ 41) (named_capabilities next tokens))
          → Reads (λ set. set < 2 ^ 41) (told word number)
      by true None below more = tt
      by true (Some number) below more = more (with_capability set number) (or_lt 41 set (2 ^ number) h (pow_below number 41 below))
      by false number below more = h

  capabilities-known : (tokens : List Placed) → Reads (λ set. set < 2 ^ 41) (capabilities tokens)
  capabilities-known [] = omega arith
  capabilities-known (token ∷ tokens) =
      reads-either (λ set. set < 2 ^ 41) (is_word token.token.kind) (named_capabilities 0 (token ∷ tokens)) (Ok (all_capabilities, token ∷ tokens))
      (named_capabilities-known 0 (token ∷ tokens) (omega arith)) (omega arith)

  first-known : (text : List ℕ) → IfSome (first_named text) AreSockets
  first-known text = by (domain_number text) (known.domains text) (kind_number text) (known.kinds text)
    where
      told : Option ℕ → Option ℕ → Option Sockets
      told domain kind = elim domain [
        | Some domain ↦ Some (record { domain = Some domain; kind = None })
        | None ↦ elim kind [ Some kind ↦ Some (record { domain = None; kind = Some kind }) | None ↦ None ]
      ]

      by : (domain : Option ℕ) → IfSome domain (λ number. number < 44) → (kind : Option ℕ) → IfSome kind (λ number. number < 9) → IfSome (told domain kind) AreSockets
      by (Some domain) d kind k = rw (lt-ltb domain 44 d) refl
      by None d (Some kind) k = lt-ltb kind 9 k
      by None d None k = tt

  named_in-known : (domain : ℕ) (text : List ℕ) → domain < 44 → IfSome (named_in domain text) AreSockets
  named_in-known domain text d = by (kind_number text) (known.kinds text)
    where
      chosen : ℕ → Bool → Option Sockets
      chosen kind stands = if stands then Some (record { domain = Some domain; kind = Some kind }) else None

      told : Option ℕ → Option Sockets
      told kind = elim kind [ None ↦ None | Some kind ↦ chosen kind (stands_behind domain kind) ]

      one : (kind : ℕ) (stands : Bool) → kind < 9 → IfSome (chosen kind stands) AreSockets
      one kind true k = rw (lt-ltb domain 44 d, lt-ltb kind 9 k) refl
      one kind false k = tt

      by : (kind : Option ℕ) → IfSome kind (λ number. number < 9) → IfSome (told kind) AreSockets
      by None k = tt
      by (Some kind) k = one kind (stands_behind domain kind) k

  -- the domain of known sockets is known
  domain-known : (domain : ℕ) (kind : Option ℕ) → AreSockets (record { domain = Some domain; kind = kind }) → domain < 44
  domain-known domain kind h = ltb-true domain 44 (and_parts (nat_lt domain 44) (is_kind kind) h).0

  second-known : (first : Sockets) (text : List ℕ) → AreSockets first → IfSome (second_named first text) AreSockets
  second-known first text h = by first.domain first.kind h
    where
      told : Option ℕ → Option Sockets
      told domain = elim domain [ None ↦ None | Some domain ↦ named_in domain text ]

      by : (domain kind : Option ℕ) → AreSockets (record { domain = domain; kind = kind }) → IfSome (told domain) AreSockets
      by None kind h = tt
      by (Some domain) kind h = named_in-known domain text (domain-known domain kind h)

  sockets_behind-known : (first : Sockets) (tokens : List Placed) → AreSockets first → Reads AreSockets (sockets_behind first tokens)
  sockets_behind-known first [] h = h
  sockets_behind-known first (token ∷ tokens) h = by (is_word token.token.kind) (second_named first (text_of token)) (second-known first (text_of token) h)
    where
      told : Bool → Option Sockets → Part Sockets
      told word both = if word then elim both [ None ↦ refused BadNetwork token | Some both ↦ Ok (both, tokens) ] else Ok (first, token ∷ tokens)

      by : (word : Bool) (both : Option Sockets) → IfSome both AreSockets → Reads AreSockets (told word both)
      by true None b = tt
      by true (Some both) b = b
      by false both b = h

  sockets-known : (tokens : List Placed) → Reads AreSockets (sockets tokens)
  sockets-known [] = refl
  sockets-known (token ∷ tokens) = by (is_word token.token.kind) (first_named (text_of token)) (first-known (text_of token))
    where
      told : Bool → Option Sockets → Part Sockets
      told word first = if word then elim first [ None ↦ refused BadNetwork token | Some first ↦ sockets_behind first tokens ] else Ok (all_sockets, token ∷ tokens)

      by : (word : Bool) (first : Option Sockets) → IfSome first AreSockets → Reads AreSockets (told word first)
      by true None f = tt
      by true (Some first) f = sockets_behind-known first tokens f
      by false first f = refl

  -- so those of the parts of rules do
  all-given : (language : Language) → Given language Known
  all-given language = record {
    by_target = λ qualifiers pattern access tokens. reads-every (λ target. Known (OnFile qualifiers pattern access target)) (target language access tokens) (λ _. refl);
    by_word_file = λ qualifiers word. refl;
    by_capabilities = λ qualifiers word tokens. IfOk-weaker (capabilities tokens) _ _ (λ read below. lt-ltb read.0 (2 ^ 41) below) (capabilities-known tokens);
    by_sockets = λ qualifiers word tokens. sockets-known tokens;
    kept = λ qualifiers tokens. refl;
  }

  common_rule-known : (language : Language) (qualifiers : Qualifiers) (tokens : List Placed) → Reads Known (common_rule language qualifiers tokens)
  common_rule-known language = common_rule-has language Known (all-given language)

  all_rule-known : (qualifiers : Qualifiers) (word : Placed) (tokens : List Placed) → Reads Known (all_rule qualifiers word tokens)
  all_rule-known qualifiers word tokens =
      reads-either Known qualifiers.owner (refused BadToken word) (owned qualifiers.deny) tt
      (reads-either Known qualifiers.deny (refused LeftOut word) (ended (All qualifiers word) tokens) tt (reads-ended Known (All qualifiers word) tokens refl))
    where
      owned : Bool → Part Rule
      owned test = if test then refused LeftOut word else ended (All qualifiers word) tokens

  wider_rule-known : (qualifiers : Qualifiers) (tokens : List Placed) → Reads Known (wider_rule qualifiers tokens)
  wider_rule-known qualifiers [] = tt
  wider_rule-known qualifiers (token ∷ tokens) =
      reads-either Known (is_left_out token) (refused LeftOut token) (taken (is_word_of (codes "all") token)) tt
      (reads-either Known (is_word_of (codes "all") token) (all_rule qualifiers token tokens) (common_rule Four qualifiers (token ∷ tokens))
      (all_rule-known qualifiers token tokens) (common_rule-known Four qualifiers (token ∷ tokens)))
    where
      taken : Bool → Part Rule
      taken test = if test then all_rule qualifiers token tokens else common_rule Four qualifiers (token ∷ tokens)

  behind-known : (language : Language) (qualifiers : Qualifiers) (tokens : List Placed) → Reads Known (rule_behind language qualifiers tokens)
  behind-known Three qualifiers tokens = common_rule-known Three qualifiers tokens
  behind-known Four qualifiers tokens = wider_rule-known qualifiers tokens

  -- no rule that is read has a number that doesn't stand in the tables
  pub rule-known : (language : Language) (tokens : List Placed) → Reads Known (rule language tokens)
  rule-known language tokens =
      reads-followed (λ _. Unit {0}) Known (qualifiers unqualified tokens) (rule_behind language) (reads-any (qualifiers unqualified tokens))
      (λ found behind _. behind-known language found behind)
