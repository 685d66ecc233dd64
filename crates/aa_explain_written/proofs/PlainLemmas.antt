-- The rule that a file makes of a pattern of one path.
use Rattle.std.proofs.Common.{◌≡◌, ℕ, ◌≤◌, ◌==◌, true, false, List, [], ◌∷◌, length, map, None, refl, ap, ◌∙◌, inl, inr}
use Rattle.std.specs.List.{list_all}
use Rattle.std.proofs.lemmas.Bool.{cases_Bool}
use Rattle.aa_bytes.specs.Bytes.{comma}
use Rattle.aa_glob_syntax.specs.Exactness.{is_exact}
use Rattle.aa_glob_syntax.specs.Reading.{HasNoFirstFault, items_of, items_read, longest}
use Rattle.aa_glob_syntax.specs.declared.context.Context.TheVariants.{Elsewhere}
use Rattle.aa_profile_conflicts.specs.States.{has_many_states}
use Rattle.aa_profile_data.specs.Cover.{covers_exec}
use Rattle.aa_profile_data.specs.declared.profile.FileRule.{FileRule}
use Rattle.aa_profile_data.specs.declared.profile.Rank.TheVariants.{Plain}
use Rattle.aa_profile_data.specs.declared.profile.Rule.TheVariants.{File as OfFile}
use Rattle.aa_profile.specs.Plainness.{is_plain, is_plain_element}
use Rattle.aa_profile.specs.Profiles.{exec_rank, file_rule_with, rules_of_rule, token_rank}
use Rattle.aa_profile_parsing.specs.declared.language.Language.{Language}
use Rattle.aa_profile_parsing.specs.declared.language.Language.TheVariants.{Four, Three}
use Rattle.aa_glob_syntax.specs.Slashes.{collapsed}
use Rattle.aa_profile_grammar.specs.Patterns.{patterns_at}
use Rattle.aa_profile_rules.specs.Rules.{OnFile}
use Rattle.aa_profile_rules.specs.declared.access.Access.{Access}
use Rattle.aa_profile_rules.specs.declared.qualifiers.Qualifiers.{Qualifiers}
use Rattle.aa_explain_written.proofs.MarkLemmas.{element_of, elements-marked, marked}
use Rattle.aa_explain_written.proofs.PatternLemmas.{collapsed-marked, exact-bytes, expansions-marked, reading-marked}
use Rattle.aa_explain_written.proofs.Spelling.{in_quotes, placed}
use Rattle.aa_explain_written.proofs.StateLemmas.{few-states}

-- the elements of a path are plain
plain-elements : (path : List ℕ) → list_all is_plain_element (map element_of path) ≡ true
plain-elements [] = refl
plain-elements (b ∷ bs) = elim (cases_Bool (b == comma)) [ inl is ↦ rw is (plain-elements bs) | inr other ↦ rw other (plain-elements bs) ]

plain-marked : (path : List ℕ) → is_plain (marked 0 path) ≡ true
plain-marked path = ap (list_all is_plain_element) (elements-marked Elsewhere 0 path) ∙ plain-elements path

exact-marked : (path : List ℕ) → HasNoFirstFault (marked 0 path) → is_exact (items_of (marked 0 path)) ≡ true
exact-marked path fine = ap (λ read. is_exact (items_read read)) (reading-marked path fine) ∙ exact-bytes path

-- its exec rules are plain, by each language
pub rank-marked : (language : Language) (path : List ℕ) → HasNoFirstFault (marked 0 path) → exec_rank (token_rank language (marked 0 path ∷ [])) (marked 0 path) ≡ Plain
rank-marked Three path fine = rw (exact-marked path fine) refl
rank-marked Four path fine = rw (plain-marked path) refl

-- the pattern of its token
pub patterns-marked : (file : ℕ) (span : ℕ × ℕ) (path : List ℕ) → patterns_at [] (placed file span (in_quotes (marked 0 path))) ≡ marked 0 path ∷ []
patterns-marked file span path = ap (map collapsed) (expansions-marked path) ∙ ap (λ text. text ∷ []) (collapsed-marked 0 path)

-- the one rule that it makes
pub rules-marked : (language : Language) (qualifiers : Qualifiers) (file : ℕ) (span : ℕ × ℕ) (path : List ℕ) (access : Access)
    → rules_of_rule language [] (OnFile qualifiers (placed file span (in_quotes (marked 0 path))) access None)
    ≡ file_rule_with qualifiers access None (token_rank language (marked 0 path ∷ [])) (marked 0 path) ∷ []
rules-marked language qualifiers file span path access = rw (patterns-marked file span path, rules_of_rule) refl

-- it has few states
pub few-rule : (rule : FileRule) (path : List ℕ) → rule.pattern ≡ marked 0 path → length (marked 0 path) ≤ longest → has_many_states (OfFile rule ∷ []) ≡ false
few-rule rule path is fits = elim (cases_Bool (covers_exec rule)) [
  | inl covers ↦ rw (covers, is) (few-states path fits)
  | inr none ↦ rw none refl
]
