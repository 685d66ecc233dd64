-- Rules as they are written (apparmor.d(5), "FILE"; docs/policy.md, "Rules").
use Rattle.std.specs.Prelude.{ℕ, Bool, ◌&&◌, ◌||◌, if◌then◌else◌, List, [], ◌∷◌, Option, None, Ok, Err, codes}
use Rattle.aa_text_tokens.specs.Splicing.{Placed}
use Rattle.aa_bytes.specs.Texts.{begins_with}
use Rattle.aa_profile_parsing.specs.Parts.{Part, behind_comma, expected, followed, refused}
use Rattle.aa_profile_parsing.specs.Tokens.{is_comma, is_open_brace, is_pattern, is_word, is_word_of, text_of}
use Rattle.aa_profile_parsing.specs.declared.fault.Fault.TheVariants.{RanOut}
use Rattle.aa_profile_parsing.specs.declared.fault.GrammarRefusal.TheVariants.{BadToken, LeftOut}
use Rattle.aa_profile_parsing.specs.declared.language.Language.{Language}
use Rattle.aa_profile_parsing.specs.declared.language.Language.TheVariants.{Four, Three}
use Rattle.aa_profile_rules.specs.Access.{access, whole_access}
use Rattle.aa_profile_rules.specs.Capabilities.{capabilities}
use Rattle.aa_profile_rules.specs.KeptRules.{begins_kept, is_among, kept}
use Rattle.aa_profile_rules.specs.Networks.{sockets}
use Rattle.aa_profile_rules.specs.Qualifiers.{qualifiers, unqualified}
use Rattle.aa_profile_rules.specs.Targets.{target}
use Rattle.aa_profile_rules.specs.declared.access.Access.{Access}
use Rattle.aa_profile_rules.specs.declared.networks.Sockets.{Sockets}
use Rattle.aa_profile_rules.specs.declared.qualifiers.Qualifiers.{Qualifiers}

-- A rule: on the files of a pattern, with its access and the target that it names, if it does; on a set of capabilities, or on sockets, with the
-- token of its word; one that is kept, with its tokens up to the Comma that ends it; or the rule `all`, with the token of its word.
pub data Rule : Type 0 where
  OnFile : (qualifiers : Qualifiers) (pattern : Placed) (access : Access) (target : Option Placed) → Rule
  OnCapabilities : (qualifiers : Qualifiers) (word : Placed) (capabilities : ℕ) → Rule
  OnNetwork : (qualifiers : Qualifiers) (word : Placed) (sockets : Sockets) → Rule
  Kept : (qualifiers : Qualifiers) (tokens : List Placed) → Rule
  All : (qualifiers : Qualifiers) (word : Placed) → Rule

-- a rule, where a Comma ends it
abbrev pub ended : Rule → List Placed → Part Rule
ended rule tokens = elim (behind_comma tokens) [ Err fault ↦ Err fault | Ok behind ↦ Ok (rule, behind) ]

-- a file rule after its pattern and its access: a target may follow
abbrev pub targeted_rule : Language → Qualifiers → Placed → Access → List Placed → Part Rule
targeted_rule language qualifiers pattern access tokens =
    followed (target language access tokens) (λ target behind. ended (OnFile qualifiers pattern access target) behind)

-- a file rule after its pattern
abbrev pub pattern_first : Language → Qualifiers → Placed → List Placed → Part Rule
pattern_first language qualifiers pattern tokens = followed (access qualifiers.deny tokens) (λ access behind. targeted_rule language qualifiers pattern access behind)

-- a file rule whose access comes before its pattern
abbrev pub access_first : Language → Qualifiers → List Placed → Part Rule
access_first language qualifiers tokens =
    followed (access qualifiers.deny tokens) (λ access behind.
    followed (expected is_pattern behind) (λ pattern rest. targeted_rule language qualifiers pattern access rest))

-- A file rule: a pattern and its access, in either order, and a target.
abbrev pub file_rule : Language → Qualifiers → List Placed → Part Rule
file_rule language qualifiers [] = Err RanOut
file_rule language qualifiers (token ∷ tokens) =
    if is_pattern token then pattern_first language qualifiers token tokens else access_first language qualifiers (token ∷ tokens)

-- the pattern of all files, in place of a token
abbrev pub all_files : Placed → Placed
all_files word = record {
  file = word.file;
  token = record { kind = word.token.kind; text = codes "/{**,}"; start = word.token.start; end = word.token.end };
}

-- the rule of the word `file` alone: on all files
abbrev pub whole_rule : Qualifiers → Placed → Rule
whole_rule qualifiers word = OnFile qualifiers (all_files word) (whole_access qualifiers.deny) None

-- A rule after the word `file`: that of the word alone, where a Comma follows, and else a file rule.
abbrev pub rule_behind_file : Language → Qualifiers → Placed → List Placed → Part Rule
rule_behind_file language qualifiers word [] = Err RanOut
rule_behind_file language qualifiers word (token ∷ tokens) =
    if is_comma token.token.kind then Ok (whole_rule qualifiers word, tokens) else file_rule language qualifiers (token ∷ tokens)

abbrev pub kept_rule : Qualifiers → List Placed → Part Rule
kept_rule qualifiers tokens = followed (kept tokens) (λ kept behind. Ok (Kept qualifiers kept, behind))

-- a rule on capabilities, after its word
abbrev pub capability_rule : Qualifiers → Placed → List Placed → Part Rule
capability_rule qualifiers word tokens = followed (capabilities tokens) (λ set behind. ended (OnCapabilities qualifiers word set) behind)

-- a rule on sockets, after its word
abbrev pub network_rule : Qualifiers → Placed → List Placed → Part Rule
network_rule qualifiers word tokens = followed (sockets tokens) (λ found behind. ended (OnNetwork qualifiers word found) behind)

-- the words of rules that can't have `owner`
abbrev pub begins_unowned : Placed → Bool
begins_unowned token = is_word_of (codes "capability") token || is_word_of (codes "network") token

-- A rule that can't have `owner`, after its word. Where `owner` comes before that word, nothing that follows would be accepted.
abbrev pub unowned_rule : Qualifiers → Placed → List Placed → Part Rule
unowned_rule qualifiers word tokens =
    if qualifiers.owner then refused BadToken word else
    if is_word_of (codes "capability") word then capability_rule qualifiers word tokens else
    network_rule qualifiers word tokens

-- a rule that isn't kept: on capabilities or sockets, where it begins with their word, and else on files
abbrev pub plain_rule : Language → Qualifiers → List Placed → Part Rule
plain_rule language qualifiers [] = Err RanOut
plain_rule language qualifiers (token ∷ tokens) =
    if begins_unowned token then unowned_rule qualifiers token tokens else file_rule language qualifiers (token ∷ tokens)

-- a rule that both languages have, after its qualifiers; the word `file` comes alone or before a file rule
abbrev pub common_rule : Language → Qualifiers → List Placed → Part Rule
common_rule language qualifiers [] = Err RanOut
common_rule language qualifiers (token ∷ tokens) =
    if is_word_of (codes "file") token then rule_behind_file language qualifiers token tokens else
    if begins_kept token then kept_rule qualifiers (token ∷ tokens) else
    plain_rule language qualifiers (token ∷ tokens)

-- words with which rules of AppArmor begin that aren't read here
abbrev pub left_out_words : List (List ℕ)
left_out_words = codes "safe" ∷ codes "unsafe" ∷ codes "prompt" ∷ codes "other" ∷ codes "if" ∷ []

-- what rules of AppArmor begin with that aren't read here: such a word, a priority, or the brace of a block of rules
abbrev pub is_left_out : Placed → Bool
is_left_out token =
    is_open_brace token.token.kind ||
    (is_word token.token.kind && (begins_with (codes "priority") (text_of token) || is_among left_out_words (text_of token)))

-- The rule `all`, after its word. Where `owner` comes before that word, nothing that follows would be accepted; `deny` isn't read here.
abbrev pub all_rule : Qualifiers → Placed → List Placed → Part Rule
all_rule qualifiers word tokens =
    if qualifiers.owner then refused BadToken word else
    if qualifiers.deny then refused LeftOut word else
    ended (All qualifiers word) tokens

-- a rule of language 4, after its qualifiers
abbrev pub wider_rule : Qualifiers → List Placed → Part Rule
wider_rule qualifiers [] = Err RanOut
wider_rule qualifiers (token ∷ tokens) =
    if is_left_out token then refused LeftOut token else
    if is_word_of (codes "all") token then all_rule qualifiers token tokens else
    common_rule Four qualifiers (token ∷ tokens)

-- a rule after its qualifiers
abbrev pub rule_behind : Language → Qualifiers → List Placed → Part Rule
rule_behind Three qualifiers tokens = common_rule Three qualifiers tokens
rule_behind Four qualifiers tokens = wider_rule qualifiers tokens

-- the rule with which tokens begin
abbrev pub rule : Language → List Placed → Part Rule
rule language tokens = followed (qualifiers unqualified tokens) (rule_behind language)
