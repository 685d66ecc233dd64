-- Definitions for the law on places: which rules are made where.
use Rattle.std.specs.Prelude.{◌≡◌, ℕ, List, [], ◌∷◌, Option, Ok}
use Rattle.std.specs.List.{Contains, flat_map}
use Rattle.aa_text_files.specs.Files.{File as HandedIn}
use Rattle.aa_text_files.specs.declared.text_error.Place.{Place}
use Rattle.aa_text_tokens.specs.Splicing.{Placed, spliced}
use Rattle.aa_text_variables.specs.Variables.{Variable}
use Rattle.aa_profile_data.specs.declared.profile.Child.{Child}
use Rattle.aa_profile_data.specs.declared.profile.Profile.{Profile}
use Rattle.aa_profile_data.specs.declared.profile.Rule.{Rule}
use Rattle.aa_profile_grammar.specs.Blocks.{OfChild, OfRule, Child as WrittenChild, Member, Profile as WrittenProfile}
use Rattle.aa_profile_grammar.specs.Files.{File, file}
use Rattle.aa_profile_parsing.specs.declared.language.Language.{Language}
use Rattle.aa_profile_grammar.specs.PatternTokens.{of_profiles}
use Rattle.aa_profile_grammar.specs.Places.{place_of_attachment, place_of_rule}
use Rattle.aa_profile_grammar.specs.declared.places.ProfilePlaces.{ProfilePlaces}
use Rattle.aa_profile_grammar.specs.declared.places.SectionPlaces.{SectionPlaces}
use Rattle.aa_profile_rules.specs.Rules.{Rule as WrittenRule}
use Rattle.aa_profile.specs.Assignments.{variables_of}
use Rattle.aa_profile.specs.Profiles.{rules_of_rule}

-- One of some written rules makes this rule, with these variables, and is written at this place.
pub record IsMadeAt (language : Language) (variables : List Variable) (written : List WrittenRule) (rule : Rule) (place : Option Place) : Type 0 where
  pub source : WrittenRule
  pub among : Contains written source
  pub makes : Contains (rules_of_rule language variables source) rule
  pub stands : place ≡ place_of_rule source

-- there are as many places as rules, and each rule is made of a written one at its place
abbrev pub AreMadeAt : Language → List Variable → List WrittenRule → List Rule → List (Option Place) → Type 0
AreMadeAt language variables written [] [] = Unit
AreMadeAt language variables written [] (place ∷ places) = ⊥
AreMadeAt language variables written (rule ∷ rules) [] = ⊥
AreMadeAt language variables written (rule ∷ rules) (place ∷ places) =
    IsMadeAt language variables written rule place × AreMadeAt language variables written rules places

-- The rules of a child or a hat are made of its own written ones in this way, and its attachment is written at its place.
abbrev pub IsChildMadeAt : Language → List Variable → WrittenChild → Child → SectionPlaces → Type 0
IsChildMadeAt language variables written child places =
    AreMadeAt language variables written.rules child.rules places.rules × (places.attachment ≡ place_of_attachment written.head)

-- Each of some children and hats is made in this way: as many of them are written as there are, and there are as many places.
abbrev pub AreChildrenMadeAt : Language → List Variable → List WrittenChild → List Child → List SectionPlaces → Type 0
AreChildrenMadeAt language variables [] [] [] = Unit
AreChildrenMadeAt language variables (source ∷ written) (child ∷ children) (own ∷ places) =
    IsChildMadeAt language variables source child own × AreChildrenMadeAt language variables written children places
AreChildrenMadeAt language variables _ _ _ = ⊥

-- the rules among the members of a block
abbrev pub rule_in : Member → List WrittenRule
rule_in (OfRule rule) = rule ∷ []
rule_in (OfChild child) = []

abbrev pub rules_in : List Member → List WrittenRule
rules_in members = flat_map rule_in members

-- the children and hats among the members of a block
abbrev pub child_in : Member → List WrittenChild
child_in (OfRule rule) = []
child_in (OfChild child) = child ∷ []

abbrev pub children_in : List Member → List WrittenChild
children_in members = flat_map child_in members

-- A profile is made in this way, by the rules of its own block, and its children and hats are.
abbrev pub IsProfileMadeAt : Language → List Variable → WrittenProfile → Profile → ProfilePlaces → Type 0
IsProfileMadeAt language variables written profile places =
    AreMadeAt language variables (rules_in written.members) profile.rules places.own.rules
    × (places.own.attachment ≡ place_of_attachment written.head)
    × AreChildrenMadeAt language variables (children_in written.members) profile.children places.children

-- Each of some profiles is made in this way.
abbrev pub AreProfilesMadeAt : Language → List Variable → List WrittenProfile → List Profile → List ProfilePlaces → Type 0
AreProfilesMadeAt language variables [] [] [] = Unit
AreProfilesMadeAt language variables (source ∷ written) (profile ∷ profiles) (own ∷ places) =
    IsProfileMadeAt language variables source profile own × AreProfilesMadeAt language variables written profiles places
AreProfilesMadeAt language variables _ _ _ = ⊥

-- The profiles of a file are made in this way: what is written is what its tokens make by the grammar, and the variables are its own.
abbrev pub AreFileMadeAt : Language → List HandedIn → List ℕ → List Profile → List ProfilePlaces → Type 0
AreFileMadeAt language files name profiles places =
    (tokens : List Placed) × (written : File) × (variables : List Variable)
    × (spliced files name ≡ Ok tokens) × (file language tokens ≡ Ok written)
    × (variables_of written.assignments (of_profiles written.profiles) ≡ Ok variables)
    × AreProfilesMadeAt language variables written.profiles profiles places
