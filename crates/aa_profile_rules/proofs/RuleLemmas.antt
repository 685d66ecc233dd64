-- What rules that are read have, where their parts give it to them.
use Rattle.std.proofs.Common.{Bool, true, false, List, [], ◌∷◌, Result, Ok, Err}
use Rattle.std.specs.Prelude.{IfOk, if◌then◌else◌, codes}
use Rattle.aa_text_tokens.specs.Splicing.{Placed}
use Rattle.aa_profile_parsing.specs.Parts.{Part, behind_comma, expected, followed, refused}
use Rattle.aa_profile_parsing.specs.Tokens.{is_comma, is_pattern, is_word_of}
use Rattle.aa_profile_parsing.specs.declared.fault.Fault.{Fault}
use Rattle.aa_profile_parsing.specs.declared.fault.GrammarRefusal.TheVariants.{BadToken}
use Rattle.aa_profile_parsing.specs.declared.language.Language.{Language}
use Rattle.aa_profile_rules.specs.Access.{access}
use Rattle.aa_profile_rules.specs.Capabilities.{capabilities}
use Rattle.aa_profile_rules.specs.KeptRules.{begins_kept, kept}
use Rattle.aa_profile_rules.specs.Networks.{sockets}
use Rattle.aa_profile_rules.specs.Rules.{Kept, OnCapabilities, OnFile, OnNetwork, Rule, access_first, begins_unowned, capability_rule, common_rule, ended, file_rule, kept_rule, network_rule, pattern_first, plain_rule, rule_behind_file, targeted_rule, unowned_rule, whole_rule}
use Rattle.aa_profile_rules.specs.Targets.{target}
use Rattle.aa_profile_rules.specs.declared.access.Access.{Access}
use Rattle.aa_profile_rules.specs.declared.qualifiers.Qualifiers.{Qualifiers}

-- what a part reads has a property, if it reads anything
abbrev pub Reads : {A : Type 0} → (A → Type 0) → Part A → Type 0
Reads P part = IfOk part (λ read. P read.0)

-- what is read behind a part has a property, where it has it whatever the part reads
pub reads-followed : {A B : Type 0} (P : A → Type 0) (Q : B → Type 0) (part : Part A) (next : A → List Placed → Part B) → Reads P part
    → ((a : A) (behind : List Placed) → P a → Reads Q (next a behind)) → Reads Q (followed part next)
reads-followed P Q (Err fault) next h more = tt
reads-followed P Q (Ok (a, behind)) next h more = more a behind h

-- what any part reads has what all have
pub reads-every : {A : Type 0} (P : A → Type 0) (part : Part A) → ((a : A) → P a) → Reads P part
reads-every P (Err fault) every = tt
reads-every P (Ok read) every = every read.0

-- any part reads something
pub reads-any : {A : Type 0} (part : Part A) → Reads (λ _. Unit {0}) part
reads-any part = reads-every (λ _. Unit {0}) part (λ _. tt)

-- what is read has a property, where it has it whichever part is taken
pub reads-either : {A : Type 0} (P : A → Type 0) (test : Bool) (one other : Part A) → Reads P one → Reads P other → Reads P (if test then one else other)
reads-either P true one other h k = h
reads-either P false one other h k = k

-- what a Comma ends has what it has
pub reads-ended : (P : Rule → Type 0) (rule : Rule) (tokens : List Placed) → P rule → Reads P (ended rule tokens)
reads-ended P rule tokens h = by (behind_comma tokens)
  where
    told : Result (List Placed) Fault → Part Rule
    told behind = elim behind [ Err fault ↦ Err fault | Ok behind ↦ Ok (rule, behind) ]

    by : (behind : Result (List Placed) Fault) → Reads P (told behind)
    by (Err fault) = tt
    by (Ok behind) = h

-- each rule that each language has is given a property by its part: by the target that it has, its set of capabilities, or its sockets
pub record Given (language : Language) (P : Rule → Type 0) : Type 0 where
  pub by_target : (qualifiers : Qualifiers) (pattern : Placed) (access : Access) (tokens : List Placed) → Reads (λ target. P (OnFile qualifiers pattern access target)) (target language access tokens)
  pub by_word_file : (qualifiers : Qualifiers) (word : Placed) → P (whole_rule qualifiers word)
  pub by_capabilities : (qualifiers : Qualifiers) (word : Placed) (tokens : List Placed) → Reads (λ set. P (OnCapabilities qualifiers word set)) (capabilities tokens)
  pub by_sockets : (qualifiers : Qualifiers) (word : Placed) (tokens : List Placed) → Reads (λ found. P (OnNetwork qualifiers word found)) (sockets tokens)
  pub kept : (qualifiers : Qualifiers) (tokens : List Placed) → P (Kept qualifiers tokens)

module _ (language : Language) (P : Rule → Type 0) (given : Given language P) where
  targeted_rule-has : (qualifiers : Qualifiers) (pattern : Placed) (access : Access) (tokens : List Placed) → Reads P (targeted_rule language qualifiers pattern access tokens)
  targeted_rule-has qualifiers pattern access tokens =
      reads-followed (λ target. P (OnFile qualifiers pattern access target)) P (target language access tokens) (λ target behind. ended (OnFile qualifiers pattern access target) behind)
      (given.by_target qualifiers pattern access tokens) (λ target behind has. reads-ended P (OnFile qualifiers pattern access target) behind has)

  pattern_first-has : (qualifiers : Qualifiers) (pattern : Placed) (tokens : List Placed) → Reads P (pattern_first language qualifiers pattern tokens)
  pattern_first-has qualifiers pattern tokens =
      reads-followed (λ _. Unit {0}) P (access qualifiers.deny tokens) (λ access behind. targeted_rule language qualifiers pattern access behind) (reads-any (access qualifiers.deny tokens))
      (λ access behind _. targeted_rule-has qualifiers pattern access behind)

  access_first-has : (qualifiers : Qualifiers) (tokens : List Placed) → Reads P (access_first language qualifiers tokens)
  access_first-has qualifiers tokens =
      reads-followed (λ _. Unit {0}) P (access qualifiers.deny tokens)
      (λ access behind. followed (expected is_pattern behind) (λ pattern rest. targeted_rule language qualifiers pattern access rest)) (reads-any (access qualifiers.deny tokens))
      (λ access behind _.
      reads-followed (λ _. Unit {0}) P (expected is_pattern behind) (λ pattern rest. targeted_rule language qualifiers pattern access rest) (reads-any (expected is_pattern behind))
      (λ pattern rest _. targeted_rule-has qualifiers pattern access rest))

  file_rule-has : (qualifiers : Qualifiers) (tokens : List Placed) → Reads P (file_rule language qualifiers tokens)
  file_rule-has qualifiers [] = tt
  file_rule-has qualifiers (token ∷ tokens) =
      reads-either P (is_pattern token) (pattern_first language qualifiers token tokens) (access_first language qualifiers (token ∷ tokens))
      (pattern_first-has qualifiers token tokens) (access_first-has qualifiers (token ∷ tokens))

  rule_behind_file-has : (qualifiers : Qualifiers) (word : Placed) (tokens : List Placed) → Reads P (rule_behind_file language qualifiers word tokens)
  rule_behind_file-has qualifiers word [] = tt
  rule_behind_file-has qualifiers word (token ∷ tokens) =
      reads-either P (is_comma token.token.kind) (Ok (whole_rule qualifiers word, tokens)) (file_rule language qualifiers (token ∷ tokens))
      (given.by_word_file qualifiers word) (file_rule-has qualifiers (token ∷ tokens))

  kept_rule-has : (qualifiers : Qualifiers) (tokens : List Placed) → Reads P (kept_rule qualifiers tokens)
  kept_rule-has qualifiers tokens =
      reads-followed (λ _. Unit {0}) P (kept tokens) (λ kept behind. Ok (Kept qualifiers kept, behind)) (reads-any (kept tokens)) (λ kept behind _. given.kept qualifiers kept)

  unowned_rule-has : (qualifiers : Qualifiers) (word : Placed) (tokens : List Placed) → Reads P (unowned_rule qualifiers word tokens)
  unowned_rule-has qualifiers word tokens =
      reads-either P qualifiers.owner (refused BadToken word) (chosen (is_word_of (codes "capability") word)) tt
      (reads-either P (is_word_of (codes "capability") word) (capability_rule qualifiers word tokens) (network_rule qualifiers word tokens)
      (reads-followed (λ set. P (OnCapabilities qualifiers word set)) P (capabilities tokens) (λ set behind. ended (OnCapabilities qualifiers word set) behind)
      (given.by_capabilities qualifiers word tokens) (λ set behind has. reads-ended P (OnCapabilities qualifiers word set) behind has))
      (reads-followed (λ found. P (OnNetwork qualifiers word found)) P (sockets tokens) (λ found behind. ended (OnNetwork qualifiers word found) behind)
      (given.by_sockets qualifiers word tokens) (λ found behind has. reads-ended P (OnNetwork qualifiers word found) behind has)))
    where
      chosen : Bool → Part Rule
      chosen test = if test then capability_rule qualifiers word tokens else network_rule qualifiers word tokens

  plain_rule-has : (qualifiers : Qualifiers) (tokens : List Placed) → Reads P (plain_rule language qualifiers tokens)
  plain_rule-has qualifiers [] = tt
  plain_rule-has qualifiers (token ∷ tokens) =
      reads-either P (begins_unowned token) (unowned_rule qualifiers token tokens) (file_rule language qualifiers (token ∷ tokens))
      (unowned_rule-has qualifiers token tokens) (file_rule-has qualifiers (token ∷ tokens))

  pub common_rule-has : (qualifiers : Qualifiers) (tokens : List Placed) → Reads P (common_rule language qualifiers tokens)
  common_rule-has qualifiers [] = tt
  common_rule-has qualifiers (token ∷ tokens) =
      reads-either P (is_word_of (codes "file") token) (rule_behind_file language qualifiers token tokens) (unnamed (begins_kept token)) (rule_behind_file-has qualifiers token tokens)
      (reads-either P (begins_kept token) (kept_rule qualifiers (token ∷ tokens)) (plain_rule language qualifiers (token ∷ tokens))
      (kept_rule-has qualifiers (token ∷ tokens)) (plain_rule-has qualifiers (token ∷ tokens)))
    where
      unnamed : Bool → Part Rule
      unnamed test = if test then kept_rule qualifiers (token ∷ tokens) else plain_rule language qualifiers (token ∷ tokens)
