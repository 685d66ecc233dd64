-- The rules of language 3: none that lets all, and no stacks.
use Rattle.std.proofs.Common.{◌≡◌, ℕ, Bool, true, false, List, [], ◌∷◌, Option, None, Some, Ok, refl}
use Rattle.std.specs.Prelude.{IfSome, if◌then◌else◌, codes}
use Rattle.aa_text_tokens.specs.Splicing.{Placed}
use Rattle.aa_profile_data.specs.ExecWords.{row}
use Rattle.aa_profile_data.specs.FullNames.{is_full_name}
use Rattle.aa_profile_data.specs.Names.{is_top_name}
use Rattle.aa_profile_data.specs.Stacks.{stack_of}
use Rattle.aa_profile_data.specs.declared.exec_word.Destination.{Destination}
use Rattle.aa_profile_data.specs.declared.exec_word.Destination.TheVariants as to
use Rattle.aa_profile_data.specs.declared.exec_word.ExecWord.{ExecWord}
use Rattle.aa_profile_parsing.specs.Parts.{Part, expected, refused}
use Rattle.aa_profile_parsing.specs.Tokens.{is_text, is_word_of, text_of}
use Rattle.aa_profile_parsing.specs.declared.fault.GrammarRefusal.TheVariants.{BadName, TargetWithoutExec}
use Rattle.aa_profile_parsing.specs.declared.language.Language.TheVariants.{Three}
use Rattle.aa_profile_rules.specs.Access.{whole_access}
use Rattle.aa_profile_rules.specs.Capabilities.{capabilities}
use Rattle.aa_profile_rules.specs.NarrowRules.{IsNarrow, NamesNoStack}
use Rattle.aa_profile_rules.specs.Networks.{sockets}
use Rattle.aa_profile_rules.specs.Qualifiers.{qualifiers, unqualified}
use Rattle.aa_profile_rules.specs.Rules.{rule, rule_behind}
use Rattle.aa_profile_rules.specs.Targets.{is_name_of, is_target, named_target, takes_target, target}
use Rattle.aa_profile_rules.specs.declared.access.Access.{Access}
use Rattle.aa_profile_rules.proofs.RuleLemmas.{Given, Reads, common_rule-has, reads-any, reads-either, reads-followed}

-- no name is a stack
pub record NamesAreNone : Type 0 where
  pub full_names : (text : List ℕ) → is_full_name text ≡ true → stack_of text ≡ None
  pub names : (text : List ℕ) → is_top_name text ≡ true → stack_of text ≡ None

-- where an access has an exec word, its target names no stack
abbrev NarrowTarget : Access → Option Placed → Type 0
NarrowTarget access target = IfSome access.word (λ word. NamesNoStack target)

no-target : (word : Option ExecWord) → IfSome word (λ word. NamesNoStack None)
no-target None = tt
no-target (Some word) = tt

module _ (none : NamesAreNone) where
  -- what names what an exec word leads to
  name-narrow : (destination : Destination) (text : List ℕ) → is_name_of destination text ≡ true → stack_of text ≡ None
  name-narrow to.Profile text h = none.full_names text h
  name-narrow to.Child text h = none.names text h
  name-narrow to.Inherit text h = absurd (cc)
  name-narrow to.Unconfined text h = absurd (cc)

  word-narrow : (found : Option ExecWord) (text : List ℕ) → (elim found [ Some word ↦ is_name_of (row word).destination text | None ↦ true ]) ≡ true
      → IfSome found (λ word. stack_of text ≡ None)
  word-narrow None text h = tt
  word-narrow (Some word) text h = name-narrow (row word).destination text h

  named_target-narrow : (access : Access) (tokens : List Placed) → Reads (NarrowTarget access) (named_target Three access tokens)
  named_target-narrow access tokens =
      reads-followed (λ _. Unit {0}) (NarrowTarget access) (expected is_text tokens) (λ target behind. taken target behind (is_target Three access (text_of target))) (reads-any (expected is_text tokens))
      (λ target behind _. by target behind (is_target Three access (text_of target)) refl)
    where
      taken : Placed → List Placed → Bool → Part (Option Placed)
      taken target behind fits = if fits then Ok (Some target, behind) else refused BadName target

      by : (target : Placed) (behind : List Placed) (fits : Bool) → is_target Three access (text_of target) ≡ fits → Reads (NarrowTarget access) (taken target behind fits)
      by target behind true e = word-narrow access.word (text_of target) e
      by target behind false e = tt

  target-narrow : (access : Access) (tokens : List Placed) → Reads (NarrowTarget access) (target Three access tokens)
  target-narrow access [] = no-target access.word
  target-narrow access (token ∷ tokens) =
      reads-either (NarrowTarget access) (is_word_of (codes "->") token) (led (takes_target access)) (Ok (None, token ∷ tokens))
      (reads-either (NarrowTarget access) (takes_target access) (named_target Three access tokens) (refused TargetWithoutExec token) (named_target-narrow access tokens) tt)
      (no-target access.word)
    where
      led : Bool → Part (Option Placed)
      led takes = if takes then named_target Three access tokens else refused TargetWithoutExec token

  all-given : Given Three IsNarrow
  all-given = record {
    by_target = λ qualifiers pattern access tokens. target-narrow access tokens;
    by_word_file = λ qualifiers word. no-target (whole_access qualifiers.deny).word;
    by_capabilities = λ qualifiers word tokens. reads-any (capabilities tokens);
    by_sockets = λ qualifiers word tokens. reads-any (sockets tokens);
    kept = λ qualifiers tokens. tt;
  }

  -- whatever rule is read
  pub rule-narrow : (tokens : List Placed) → Reads IsNarrow (rule Three tokens)
  rule-narrow tokens =
      reads-followed (λ _. Unit {0}) IsNarrow (qualifiers unqualified tokens) (rule_behind Three) (reads-any (qualifiers unqualified tokens))
      (λ found behind _. common_rule-has Three IsNarrow all-given found behind)
