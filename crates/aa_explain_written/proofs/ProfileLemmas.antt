-- The profile that a file of one rule spells.
use Rattle.std.proofs.Common.{◌≡◌, ℕ, true, false, List, [], ◌∷◌, ◌++◌, length, map, None, Ok, refl, ap, ◌∙◌, nat_le}
use Rattle.std.specs.Option.{option_map}
use Rattle.std.proofs.lemmas.Bool.{le-leb}
use Rattle.aa_glob_syntax.specs.Reading.{HasNoFirstFault, longest, reading}
use Rattle.aa_profile.specs.Assignments.{variables_of}
use Rattle.aa_profile.specs.Conflicts.{conflict_in_members, conflict_in_profiles, conflict_in_rule, refusal_of_conflicts}
use Rattle.aa_profile.specs.FileReading.{file_profiles_in, profiles_in, profiles_of, profiles_with, refusal_of_blocks, refusal_of_patterns, refusal_of_rules}
use Rattle.aa_profile.specs.States.{many_in_profile, many_in_profiles, refusal_of_states}
use Rattle.aa_profile_conflicts.specs.States.{has_many_states}
use Rattle.aa_profile_data.specs.declared.profile.FileRule.{FileRule}
use Rattle.aa_profile_data.specs.declared.profile.Profile.{Profile}
use Rattle.aa_profile_data.specs.declared.profile.Rule.{Rule}
use Rattle.aa_profile_data.specs.declared.profile.Rule.TheVariants.{File as OfFile}
use Rattle.aa_profile_parsing.specs.ProfileError.{placed as placed_refusal}
use Rattle.aa_profile_parsing.specs.declared.profile_error.ProfileRefusal.TheVariants.{ExecConflict, ManyStates}
use Rattle.aa_profile_parsing.specs.Tokens.{place_of}
use Rattle.aa_profile_grammar.specs.Blocks.{OfRule}
use Rattle.aa_profile_grammar.specs.Files.{File, file}
use Rattle.aa_profile.specs.Profiles.{profile_of, rules_of_members, rules_of_rule}
use Rattle.aa_profile_parsing.specs.declared.language.Language.{Language}
use Rattle.aa_profile_parsing.specs.declared.language.Language.TheVariants.{Four, Three}
use Rattle.aa_profile_grammar.specs.PatternTokens.{of_profiles}
use Rattle.aa_glob_syntax.specs.Slashes.{collapsed}
use Rattle.aa_profile_grammar.specs.Patterns.{first_bad, over_limit, refusal_of_expansion}
use Rattle.aa_profile_rules.specs.Rules.{OnCapabilities, OnFile, OnNetwork, Rule as WrittenRule}
use Rattle.aa_profile_rules.specs.declared.access.Access.{Access}
use Rattle.aa_profile_rules.specs.declared.networks.Sockets.{Sockets}
use Rattle.aa_profile_rules.specs.declared.qualifiers.Qualifiers.{Qualifiers}
use Rattle.aa_text_files.specs.Files.{File as HandedIn}
use Rattle.aa_text_tokens.specs.Splicing.{Placed, spliced}
use Rattle.aa_explain_written.specs.ReadBack.{profile_of_one}
use Rattle.aa_explain_written.proofs.FileLemmas.{profile_with}
use Rattle.aa_explain_written.proofs.MarkLemmas.{marked}
use Rattle.aa_explain_written.proofs.PatternLemmas.{collapsed-marked, defined-marked, expansions-marked, reading-marked}
use Rattle.aa_explain_written.proofs.PlainLemmas.{few-rule}
use Rattle.aa_explain_written.proofs.Spelling.{Spans, in_quotes, placed}

-- the file of one profile with one rule
abbrev pub file_with : ℕ → Spans → WrittenRule → File
file_with at spans read = record { assignments = []; profiles = profile_with at spans read ∷ [] }

-- the profile of a rule on capabilities, and on sockets
pub profiles-capability : (language : Language) (at : ℕ) (spans : Spans) (qualifiers : Qualifiers) (word : Placed) (set : ℕ) (rule : Rule)
    → rules_of_rule language [] (OnCapabilities qualifiers word set) ≡ rule ∷ []
    → profiles_in language (file_with at spans (OnCapabilities qualifiers word set)) ≡ Ok (profile_of_one rule ∷ [])
profiles-capability Three at spans qualifiers word set rule made = ap (λ rules. Ok (record (profile_of_one rule) { rules = rules } ∷ [])) made
profiles-capability Four at spans qualifiers word set rule made = ap (λ rules. Ok (record (profile_of_one rule) { rules = rules } ∷ [])) made

pub profiles-network : (language : Language) (at : ℕ) (spans : Spans) (qualifiers : Qualifiers) (word : Placed) (sockets : Sockets) (rule : Rule)
    → rules_of_rule language [] (OnNetwork qualifiers word sockets) ≡ rule ∷ []
    → profiles_in language (file_with at spans (OnNetwork qualifiers word sockets)) ≡ Ok (profile_of_one rule ∷ [])
profiles-network Three at spans qualifiers word sockets rule made = ap (λ rules. Ok (record (profile_of_one rule) { rules = rules } ∷ [])) made
profiles-network Four at spans qualifiers word sockets rule made = ap (λ rules. Ok (record (profile_of_one rule) { rules = rules } ∷ [])) made

-- the variables of a file with the pattern of one path alone
variables-one : (at : ℕ) (span : ℕ × ℕ) (path : List ℕ) → variables_of [] (placed at span (in_quotes (marked 0 path)) ∷ []) ≡ Ok []
variables-one at span path = rw (defined-marked path, variables_of) refl

-- its pattern is no expansion too many
limit-one : (at : ℕ) (span : ℕ × ℕ) (path : List ℕ) → over_limit [] (placed at span (in_quotes (marked 0 path)) ∷ []) ≡ None
limit-one at span path = rw (expansions-marked path, over_limit) refl

expansion-fine : (path : List ℕ) → HasNoFirstFault (marked 0 path) → refusal_of_expansion (marked 0 path) ≡ None
expansion-fine path fine =
    let short : nat_le (length (marked 0 path)) longest ≡ true = le-leb (length (marked 0 path)) longest fine.0 in
    let reads : reading (collapsed (marked 0 path)) ≡ Ok _ = ap reading (collapsed-marked 0 path) ∙ reading-marked path fine in
    rw (short, reads, refusal_of_expansion) refl

-- and it reads
bad-one : (at : ℕ) (span : ℕ × ℕ) (path : List ℕ) → HasNoFirstFault (marked 0 path) → first_bad [] (placed at span (in_quotes (marked 0 path)) ∷ []) ≡ None
bad-one at span path fine = rw (expansions-marked path, first_bad) (rw (expansion-fine path fine) refl)

patterns-one : (at : ℕ) (span : ℕ × ℕ) (path : List ℕ) → HasNoFirstFault (marked 0 path) → refusal_of_patterns [] (placed at span (in_quotes (marked 0 path)) ∷ []) ≡ None
patterns-one at span path fine = rw (limit-one at span path, refusal_of_patterns) (bad-one at span path fine)

-- the rules of its block
rules-one : (language : Language) (read : WrittenRule) (rule : Rule) → rules_of_rule language [] read ≡ rule ∷ [] → rules_of_members language [] (OfRule read ∷ []) ≡ rule ∷ []
rules-one language read rule made = ap (λ rules. rules ++ []) made

-- it hasn't too many states
many-one : (language : Language) (at : ℕ) (spans : Spans) (read : WrittenRule) (rule : Rule) → rules_of_rule language [] read ≡ rule ∷ [] → has_many_states (rule ∷ []) ≡ false
    → many_in_profile (profile_with at spans read) (profile_of language [] (profile_with at spans read)) ≡ None
many-one language at spans read rule made few =
    let none : has_many_states (rules_of_members language [] (OfRule read ∷ [])) ≡ false = ap has_many_states (rules-one language read rule made) ∙ few in
    rw (none, many_in_profile) refl

many-first : (language : Language) (at : ℕ) (spans : Spans) (read : WrittenRule) (rule : Rule) → rules_of_rule language [] read ≡ rule ∷ [] → has_many_states (rule ∷ []) ≡ false
    → many_in_profiles (profile_with at spans read ∷ []) (map (profile_of language []) (profile_with at spans read ∷ [])) ≡ None
many-first language at spans read rule made few = rw (many-one language at spans read rule made few, many_in_profiles) refl

states-one : (language : Language) (at : ℕ) (spans : Spans) (read : WrittenRule) (rule : Rule) → rules_of_rule language [] read ≡ rule ∷ [] → has_many_states (rule ∷ []) ≡ false
    → refusal_of_states language [] (profile_with at spans read ∷ []) ≡ None
states-one Three at spans read rule made few = refl
states-one Four at spans read rule made few = ap (option_map (λ token. placed_refusal ManyStates (place_of token))) (many-first Four at spans read rule made few)

-- one rule doesn't conflict
conflict-one : (language : Language) (read : WrittenRule) (rule : Rule) → rules_of_rule language [] read ≡ rule ∷ [] → conflict_in_rule language [] [] read ≡ None
conflict-one language read rule made = rw (made, conflict_in_rule) refl

conflicts-one : (language : Language) (at : ℕ) (spans : Spans) (read : WrittenRule) (rule : Rule) → rules_of_rule language [] read ≡ rule ∷ []
    → refusal_of_conflicts language [] (profile_with at spans read ∷ []) ≡ None
conflicts-one language at spans read rule made =
    let members : conflict_in_members language [] [] (OfRule read ∷ []) ≡ None = rw (conflict-one language read rule made, conflict_in_members) refl in
    let profiles : conflict_in_profiles language [] (profile_with at spans read ∷ []) ≡ None = rw (members, conflict_in_profiles) refl in
    ap (option_map (λ pattern. placed_refusal ExecConflict (place_of pattern))) profiles

-- none of its rules is refused
refused-none : (language : Language) (at : ℕ) (spans : Spans) (read : WrittenRule) (rule : Rule) → rules_of_rule language [] read ≡ rule ∷ [] → has_many_states (rule ∷ []) ≡ false
    → refusal_of_patterns [] (of_profiles (profile_with at spans read ∷ [])) ≡ None → refusal_of_rules language [] (profile_with at spans read ∷ []) ≡ None
refused-none language at spans read rule made few patterns =
    rw (patterns, refusal_of_rules) (rw (states-one language at spans read rule made few, refusal_of_blocks) (conflicts-one language at spans read rule made))

-- the profile
profile-one : (language : Language) (at : ℕ) (spans : Spans) (read : WrittenRule) (rule : Rule) → rules_of_rule language [] read ≡ rule ∷ []
    → map (profile_of language []) (profile_with at spans read ∷ []) ≡ profile_of_one rule ∷ []
profile-one language at spans read rule made = ap (λ rules. record (profile_of_one rule) { rules = rules } ∷ []) (rules-one language read rule made)

-- the profile of a rule on files
pub profiles-file : (language : Language) (at : ℕ) (spans : Spans) (qualifiers : Qualifiers) (span : ℕ × ℕ) (path : List ℕ) (access : Access) (rule : FileRule)
    → HasNoFirstFault (marked 0 path) → rule.pattern ≡ marked 0 path
    → rules_of_rule language [] (OnFile qualifiers (placed at span (in_quotes (marked 0 path))) access None) ≡ OfFile rule ∷ []
    → profiles_in language (file_with at spans (OnFile qualifiers (placed at span (in_quotes (marked 0 path))) access None)) ≡ Ok (profile_of_one (OfFile rule) ∷ [])
profiles-file language at spans qualifiers span path access rule fine is made =
    let read : WrittenRule = OnFile qualifiers (placed at span (in_quotes (marked 0 path))) access None in
    let few = few-rule rule path is fine.0 in
    let none = refused-none language at spans read (OfFile rule) made few (patterns-one at span path fine) in
    rw (variables-one at span path, profiles_in) (rw (none, profiles_with) (ap Ok (profile-one language at spans read (OfFile rule) made)))

-- what a name's file spells, from its tokens and their profiles
pub file-profiles : (language : Language) (files : List HandedIn) (name : List ℕ) (tokens : List Placed) (written : File) (profiles : List Profile)
    → spliced files name ≡ Ok tokens → file language tokens ≡ Ok written → profiles_in language written ≡ Ok profiles → file_profiles_in language files name ≡ Ok profiles
file-profiles language files name tokens written profiles found read made = rw (found, file_profiles_in) (rw (read, profiles_of) made)
