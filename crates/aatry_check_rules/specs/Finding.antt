-- Which written rules of profiles, children and hats decide nothing (docs/aatry.md, "`aatry check --rules`").
use Rattle.std.specs.Prelude.{◌≡◌, ℕ, Bool, false, true, not, ◌==◌, List, [], ◌∷◌, filter, length, map, reverse, Option, None, Some, option_map}
use Rattle.std.specs.List.{All, list_any}
use Rattle.std.specs.Str.{bytes_eq}
use Rattle.aa_explain_redundant.specs.Left.{WrittenRules}
use Rattle.aa_explain_redundant.specs.Examples.{IsExampleWithin}
use Rattle.aa_explain_redundant.specs.Redundant.{AreToldOf}
use Rattle.aa_explain_redundant.specs.Trying.{trying_patterns}
use Rattle.aa_glob_paths.specs.TooMany.{AreMoreTextsThan}
use Rattle.aatry_policy.specs.Parts.{Part}
use Rattle.aatry_policy.specs.SeenProfiles.{seen_part}
use Rattle.aatry_check_rules.specs.Written.{Which, tried_of, written_of}
use Rattle.aatry_check_rules.specs.declared.finding.Found.{Found as CodeFound}
use Rattle.aatry_check_rules.specs.declared.finding.RedundantRule.{RedundantRule}

-- the numbers of written rules that are reported
abbrev pub told_numbers : List RedundantRule → List ℕ
told_numbers told = map (λ (one : RedundantRule). one.number) told

-- the reported example of a rule is right, where all these are gone
abbrev pub HasExample : WrittenRules → List ℕ → ℕ → RedundantRule → Type 0
HasExample rules gone limit one = IsExampleWithin rules gone one.number limit one.example

-- The reported rules, in the order in which they are written, are those of the tried ones that decide nothing, and the example of each is right.
pub record AreRedundant (rules : WrittenRules) (tried : List ℕ) (limit : ℕ) (told : List RedundantRule) : Type 0 where
  pub right : AreToldOf rules tried (reverse (told_numbers told))
  pub examples : All (HasExample rules (told_numbers told) limit) told

-- The reported rules are right; or there are none, and the patterns read more texts than the limit differently.
abbrev pub AreRedundantWithin : WrittenRules → List ℕ → ℕ → Option (List RedundantRule) → Type 0
AreRedundantWithin rules tried limit None = AreMoreTextsThan (trying_patterns rules tried) limit
AreRedundantWithin rules tried limit (Some told) = AreRedundant rules tried limit told

-- a part, how many of its written rules are tried, and those that decide nothing, where there aren't too many paths
pub record Found : Type 0 where
  pub part : Part
  pub tried : ℕ
  pub told : Option (List RedundantRule)

abbrev pub seen_found : CodeFound → Found
seen_found found = record { part = seen_part found.part.now; tried = found.tried; told = option_map (λ told. told.items) found.told }

-- the finding for a part is right
pub record IsFound (which : Which) (limit : ℕ) (found : Found) : Type 0 where
  pub counted : found.tried ≡ length (tried_of which found.part)
  pub told : AreRedundantWithin (written_of found.part) (tried_of which found.part) limit found.told

-- the findings are for these parts, in their order, and right
pub record AreFound (which : Which) (limit : ℕ) (parts : List Part) (found : List Found) : Type 0 where
  pub each : All (IsFound which limit) found
  pub of : map (λ (one : Found). one.part) found ≡ parts

-- a part is of a file of one of these names; where there is no name, each is meant
abbrev pub is_of_file : List ℕ → List ℕ → Bool
is_of_file file name = bytes_eq file name

abbrev pub is_asked : List (List ℕ) → Part → Bool
is_asked [] part = true
is_asked (name ∷ names) part = list_any (is_of_file part.file) (name ∷ names)

abbrev pub parts_asked : List (List ℕ) → List Part → List Part
parts_asked names parts = filter (is_asked names) parts

-- no part is of the file of a name
abbrev pub is_absent : List Part → List ℕ → Bool
is_absent parts name = not (list_any (λ (part : Part). is_of_file part.file name) parts)

-- some written rule decides nothing; and some part has too many paths
abbrev pub has_told : Found → Bool
has_told found = elim found.told [ None ↦ false | Some told ↦ not (length told == 0) ]

abbrev pub some_told : List Found → Bool
some_told found = list_any has_told found

abbrev pub is_many : Found → Bool
is_many found = elim found.told [ None ↦ true | Some told ↦ false ]

abbrev pub some_many : List Found → Bool
some_many found = list_any is_many found
