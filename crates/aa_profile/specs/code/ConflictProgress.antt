-- How far the search for the first conflict has come.
use Rattle.std.specs.Option.{option_map}
use Rattle.std.specs.Prelude.{◌≡◌, ℕ, List, [], ◌++◌, Option, None}
use Rattle.aa_text_files.specs.declared.text_error.Place.{Place}
use Rattle.aa_text_variables.specs.Variables.{Variable}
use Rattle.aa_profile_data.specs.Conflicts.{first_conflict}
use Rattle.aa_profile_data.specs.declared.profile.Rule.{Rule}
use Rattle.aa_profile_grammar.specs.Blocks.{Member}
use Rattle.aa_profile_parsing.specs.declared.language.Language.{Language}
use Rattle.aa_profile_parsing.specs.Tokens.{place_of}
use Rattle.aa_profile_rules.specs.Rules.{Rule as WrittenRule}
use Rattle.aa_profile.specs.Conflicts.{conflict_in_members, conflict_in_rule, conflict_in_rules}
use Rattle.aa_profile.specs.Profiles.{rules_of, rules_of_members, rules_of_rule}

-- What is found for a written rule, where the first conflict among its rules and those after them is so many rules further, if there is one: its
-- pattern, if this rule makes the conflict, and else how many rules further it is after this one.
pub record Passes (language : Language) (variables : List Variable) (rule : WrittenRule) (old new : Option ℕ) (found : Option Place) : Type 0 where
  pub told : (before rest : List Rule) → old ≡ first_conflict before (rules_of_rule language variables rule ++ rest)
      → found ≡ option_map place_of (conflict_in_rule language variables before rule)
  pub behind : (before rest : List Rule) → old ≡ first_conflict before (rules_of_rule language variables rule ++ rest) → found ≡ None
      → new ≡ first_conflict (before ++ rules_of_rule language variables rule) rest

-- The first conflict is in none of the written rules so far: the rest decides, after the rules that were made, and it is so many rules further.
pub record ReachesRules (language : Language) (variables : List Variable) (all rest : List WrittenRule) (on : Option ℕ) : Type 0 where
  pub before : List Rule
  pub stands : on ≡ first_conflict before (rules_of language variables rest)
  pub decides : conflict_in_rules language variables before rest ≡ conflict_in_rules language variables [] all

-- The first conflict is in none of the members so far: the rest decides, after the rules that were made, and it is so many rules further.
pub record ReachesMembers (language : Language) (variables : List Variable) (all rest : List Member) (on : Option ℕ) : Type 0 where
  pub before : List Rule
  pub stands : on ≡ first_conflict before (rules_of_members language variables rest)
  pub decides : conflict_in_members language variables before rest ≡ conflict_in_members language variables [] all
