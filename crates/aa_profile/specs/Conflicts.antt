-- The first conflict of a file: the first pattern, in the order of the file, that makes a rule which conflicts with one before it in its profile,
-- child or hat (docs/policy.md, "Rules that conflict").
use Rattle.std.specs.Option.{option_map}
use Rattle.std.specs.Prelude.{if◌then◌else◌, is_some, List, [], ◌∷◌, ◌++◌, Option, None, Some}
use Rattle.aa_text_tokens.specs.Splicing.{Placed}
use Rattle.aa_text_variables.specs.Variables.{Variable}
use Rattle.aa_profile_data.specs.Conflicts.{first_conflict}
use Rattle.aa_profile_data.specs.declared.profile.Rule.{Rule}
use Rattle.aa_profile_grammar.specs.Blocks.{OfChild, OfRule, Member, Profile}
use Rattle.aa_profile_parsing.specs.declared.language.Language.{Language}
use Rattle.aa_profile_parsing.specs.Tokens.{place_of}
use Rattle.aa_profile_rules.specs.Rules.{All, Kept, OnCapabilities, OnFile, OnNetwork, Rule as WrittenRule, all_files}
use Rattle.aa_profile.specs.Profiles.{rules_of_rule}
use Rattle.aa_profile_parsing.specs.ProfileError.{placed}
use Rattle.aa_profile_parsing.specs.declared.profile_error.ProfileError.{ProfileError}
use Rattle.aa_profile_parsing.specs.declared.profile_error.ProfileRefusal.TheVariants.{ExecConflict}

-- the pattern of a written rule, where it has one
abbrev pub pattern_of : WrittenRule → Option Placed
pattern_of (OnFile qualifiers pattern access target) = Some pattern
pattern_of (OnCapabilities qualifiers word capabilities) = None
pattern_of (OnNetwork qualifiers word sockets) = None
pattern_of (Kept qualifiers tokens) = None
pattern_of (All qualifiers word) = Some (all_files word)

-- The pattern of a written rule, where a rule that it makes conflicts with one before it. Others come before all that it makes.
abbrev pub conflict_in_rule : Language → List Variable → List Rule → WrittenRule → Option Placed
conflict_in_rule language variables before rule =
    if is_some (first_conflict before (rules_of_rule language variables rule)) then pattern_of rule else None

-- the first such pattern of written rules
abbrev pub conflict_in_rules : Language → List Variable → List Rule → List WrittenRule → Option Placed
conflict_in_rules language variables before [] = None
conflict_in_rules language variables before (rule ∷ rules) = elim (conflict_in_rule language variables before rule) [
  | Some pattern ↦ Some pattern
  | None ↦ conflict_in_rules language variables (before ++ rules_of_rule language variables rule) rules
]

-- The first such pattern of the members of a block. The rules of a child or hat aren't those of its profile.
abbrev pub conflict_in_members : Language → List Variable → List Rule → List Member → Option Placed
conflict_in_members language variables before [] = None
conflict_in_members language variables before (OfRule rule ∷ members) = elim (conflict_in_rule language variables before rule) [
  | Some pattern ↦ Some pattern
  | None ↦ conflict_in_members language variables (before ++ rules_of_rule language variables rule) members
]
conflict_in_members language variables before (OfChild child ∷ members) = elim (conflict_in_rules language variables [] child.rules) [
  | Some pattern ↦ Some pattern
  | None ↦ conflict_in_members language variables before members
]

-- the first such pattern of profiles
abbrev pub conflict_in_profiles : Language → List Variable → List Profile → Option Placed
conflict_in_profiles language variables [] = None
conflict_in_profiles language variables (profile ∷ profiles) = elim (conflict_in_members language variables [] profile.members) [
  | Some pattern ↦ Some pattern
  | None ↦ conflict_in_profiles language variables profiles
]

-- the refusal of that pattern, with its place
abbrev pub refusal_of_conflicts : Language → List Variable → List Profile → Option ProfileError
refusal_of_conflicts language variables profiles =
    option_map (λ pattern. placed ExecConflict (place_of pattern)) (conflict_in_profiles language variables profiles)
