-- The numbers in a file's rules: those of the tables.
use Rattle.std.proofs.Common.{◌≡◌, ℕ, true, List, [], ◌∷◌, Result, Ok, Err, map, refl}
use Rattle.std.specs.Prelude.{IfOk}
use Rattle.std.specs.List.{list_all}
use Rattle.std.proofs.lemmas.List.Elements.{All-weaker}
use Rattle.std.proofs.lemmas.List.Sums.{AllPass-from_list_all, list_all-from_AllPass}
use Rattle.aa_text_tokens.specs.Splicing.{Placed}
use Rattle.aa_text_variables.specs.Variables.{Variable}
use Rattle.aa_profile_parsing.specs.Flags.{flags}
use Rattle.aa_profile_parsing.specs.declared.language.Language.{Language}
use Rattle.aa_profile_rules.specs.RuleNumbers.{has_known_numbers as is_known}
use Rattle.aa_profile_rules.specs.Rules.{All as LetsAll, Kept, OnCapabilities, OnFile, OnNetwork, Rule as WrittenRule, rule}
use Rattle.aa_profile_grammar.specs.Files.{File, file}
use Rattle.aa_profile_data.specs.Numbers.{child_has_known_numbers, has_known_numbers, profile_has_known_numbers}
use Rattle.aa_profile_data.specs.declared.profile.Child.{Child}
use Rattle.aa_profile_data.specs.declared.profile.Profile.{Profile}
use Rattle.aa_profile_data.specs.declared.profile.Rule.{Rule}
use Rattle.aa_profile_grammar.specs.Patterns.{patterns_at}
use Rattle.aa_profile.specs.Profiles.{file_rule, profile_of, rules_of_rule, token_rank}
use Rattle.aa_profile.proofs.BlockLemmas.{MadeChildHas, MadeProfileHas, file-has}

-- what is made of rules that have no number outside of the tables has none either
file_rules-known : (make : List ℕ → Rule) → ((pattern : List ℕ) → has_known_numbers (make pattern) ≡ true) → (patterns : List (List ℕ)) → list_all has_known_numbers (map make patterns) ≡ true
file_rules-known make fine [] = refl
file_rules-known make fine (pattern ∷ patterns) = rw (fine pattern, file_rules-known make fine patterns) refl

made-rule : (language : Language) (variables : List Variable) (rule : WrittenRule) → is_known rule ≡ true → list_all has_known_numbers (rules_of_rule language variables rule) ≡ true
made-rule language variables (OnFile qualifiers pattern access target) h = file_rules-known (file_rule qualifiers access target (token_rank language (patterns_at variables pattern))) (λ pattern. refl) (patterns_at variables pattern)
made-rule language variables (OnCapabilities qualifiers word capabilities) h = rw h refl
made-rule language variables (OnNetwork qualifiers word sockets) h = rw h refl
made-rule language variables (Kept qualifiers tokens) h = refl
made-rule language variables (LetsAll qualifiers word) h = refl

-- a rule has none; nothing is asked of flags and modes
abbrev Known : Rule → Type 0
Known rule = has_known_numbers rule ≡ true

abbrev Any : {A : Type 0} → A → Type 0
Any a = Unit {0}

any-found : {A E : Type 0} (found : Result A E) → IfOk found Any
any-found (Err error) = tt
any-found (Ok read) = tt

child-known : (child : Child) → MadeChildHas Known Any child → child_has_known_numbers child ≡ true
child-known child has = list_all-from_AllPass has_known_numbers child.rules has.1

profile-known : (profile : Profile) → MadeProfileHas Known Any profile → profile_has_known_numbers profile ≡ true
profile-known profile has =
    let own = list_all-from_AllPass has_known_numbers profile.rules has.1 in
    let children = list_all-from_AllPass child_has_known_numbers profile.children (All-weaker (MadeChildHas Known Any) _ child-known profile.children has.2) in
    rw (own, children) refl

-- rules have no number that doesn't stand in the tables
abbrev pub RulesKnown : Type 0
RulesKnown = (language : Language) (tokens : List Placed) → IfOk (rule language tokens) (λ read. is_known read.0 ≡ true)

-- nor have the profiles of a file, whatever its variables are
pub profiles-known : RulesKnown → (language : Language) (variables : List Variable) (tokens : List Placed) (read : File) → file language tokens ≡ Ok read
    → list_all profile_has_known_numbers (map (profile_of language variables) read.profiles) ≡ true
profiles-known known language variables tokens read h =
    let profiles = map (profile_of language variables) read.profiles in
    list_all-from_AllPass profile_has_known_numbers profiles
    (All-weaker (MadeProfileHas Known Any) _ profile-known profiles
    (file-has language (λ rule. is_known rule ≡ true) Any (known language) (λ tokens. any-found (flags language tokens)) variables Known Any
    (λ rule fine. AllPass-from_list_all has_known_numbers (rules_of_rule language variables rule) (made-rule language variables rule fine)) (λ flags any. tt) tokens read h))
