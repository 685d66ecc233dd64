-- The rules that are left where written rules are taken away.
use Rattle.std.specs.Prelude.{ℕ, ◌+◌, Bool, false, true, not, ◌&&◌, List, [], ◌∷◌, map, nat_eq, slice_get, Option, None, Some}
use Rattle.std.specs.List.{filter, list_any}
use Rattle.aa_profile_data.specs.Matching.{is_matching}
use Rattle.aa_profile_data.specs.declared.profile.Rule.{Rule}
use Rattle.aa_profile_data.specs.declared.profile.Rule.TheVariants.{Cap, File, Net, Other}

-- A profile, a child or a hat as it decides on files: the flag that audits each of its rules, its rules, and for each the number of the written rule
-- that it was made of.
pub record WrittenRules : Type 0 where
  pub audit : Bool
  pub rules : List Rule
  pub written : List ℕ

-- a rule, and the number of the written rule that it was made of, if that is known
pub record Numbered : Type 0 where
  pub rule : Rule
  pub written : Option ℕ

-- rules with their numbers, of which the first has this index
abbrev pub numbered_from : ℕ → List ℕ → List Rule → List Numbered
numbered_from place written [] = []
numbered_from place written (rule ∷ rules) = record { rule = rule; written = slice_get written place } ∷ numbered_from (place + 1) written rules

abbrev pub numbered : WrittenRules → List Numbered
numbered rules = numbered_from 0 rules.written rules.rules

abbrev pub is_file : Rule → Bool
is_file (File rule) = true
is_file (Cap rule) = false
is_file (Net rule) = false
is_file (Other rule) = false

abbrev pub is_among : List ℕ → Option ℕ → Bool
is_among numbers None = false
is_among numbers (Some number) = list_any (λ one. nat_eq one number) numbers

-- a rule on files that was made of one of some written rules
abbrev pub is_made_of : List ℕ → Numbered → Bool
is_made_of numbers one = is_file one.rule && is_among numbers one.written

-- a rule stays where these are taken away
abbrev pub stays : List ℕ → Numbered → Bool
stays gone one = not (is_made_of gone one)

abbrev pub rules_among : List Numbered → List Rule
rules_among numbered = map (λ (one : Numbered). one.rule) numbered

-- the rules that are left of some rules
abbrev pub left_of : List ℕ → List Numbered → List Rule
left_of gone numbered = rules_among (filter (stays gone) numbered)

-- The rules that are left where the rules on files are taken away that were made of some written rules.
abbrev pub left : WrittenRules → List ℕ → List Rule
left rules gone = left_of gone (numbered rules)

-- those of some rules whose pattern matches a path
abbrev pub matching : List ℕ → List Numbered → List Numbered
matching path rules = filter (λ (one : Numbered). is_matching path one.rule) rules

-- a rule made of a written rule is among some
abbrev pub speaks : ℕ → List Numbered → Bool
speaks number rules = list_any (is_made_of (number ∷ [])) rules

-- a written rule isn't among those that are reported
abbrev pub stays_named : List ℕ → ℕ → Bool
stays_named told number = not (is_among told (Some number))

-- A written rule can be reported: a rule on files was made of it, and it isn't reported yet.
abbrev pub can_be_told : List Numbered → List ℕ → ℕ → Bool
can_be_told rules told number = speaks number rules && stays_named told number
