-- Definitions for the laws on places: where loaded profiles were read, and where their rules are written.
use Rattle.std.specs.Prelude.{◌≡◌, ℕ, List, [], ◌∷◌, Option, None, Some, Ok, slice_get}
use Rattle.std.specs.List.{Contains}
use Rattle.std.specs.Option.{option_map}
use Rattle.aa_decide_ready.specs.Entries.{Loaded}
use Rattle.aa_profile.specs.Assignments.{variables_of}
use Rattle.aa_profile.specs.FilePlaces.{file_places_in}
use Rattle.aa_profile.specs.FileReading.{file_profiles_in}
use Rattle.aa_profile.specs.PlaceLaws.{AreMadeAt, children_in, rules_in}
use Rattle.aa_profile_data.specs.declared.profile.Profile.{Profile}
use Rattle.aa_profile_data.specs.declared.profile.Rule.{Rule}
use Rattle.aa_profile_grammar.specs.Blocks.{Profile as WrittenProfile}
use Rattle.aa_profile_grammar.specs.Files.{File as WrittenFile, file}
use Rattle.aa_profile_parsing.specs.declared.language.Language.{Language}
use Rattle.aa_profile_grammar.specs.PatternTokens.{of_profiles}
use Rattle.aa_profile_grammar.specs.declared.places.ProfilePlaces.{ProfilePlaces}
use Rattle.aa_profile_rules.specs.Rules.{Rule as WrittenRule}
use Rattle.aa_text_files.specs.Files.{File}
use Rattle.aa_text_files.specs.declared.text_error.Place.{Place}
use Rattle.aa_text_tokens.specs.Splicing.{Placed, spliced}
use Rattle.aa_text_variables.specs.Variables.{Variable}
use Rattle.aatry_policy.specs.Origins.{origin_in}
use Rattle.aatry_policy.specs.Parts.{Part}
use Rattle.aatry_policy.specs.declared.origins.Origin.{Origin}

-- An origin is that of a profile: its file has the profile by a language, and the origin has the places that the file has for it.
pub record IsReadAt (language : Language) (files : List File) (profile : Profile) (origin : Origin) : Type 0 where
  pub profiles : List Profile
  pub places : List ProfilePlaces
  pub at : ℕ
  pub own : ProfilePlaces
  pub read : file_profiles_in language files origin.file ≡ Ok profiles
  pub among : slice_get profiles at ≡ Some profile
  pub stand : file_places_in language files origin.file ≡ Some places
  pub beside : slice_get places at ≡ Some own
  pub kept : origin.places ≡ Some own
  pub named : origin.profile ≡ profile.name

-- there are as many origins as loaded profiles, and each is that of its profile
abbrev pub AreReadAt : Language → List File → List Loaded → List Origin → Type 0
AreReadAt language files [] [] = Unit {0}
AreReadAt language files (entry ∷ entries) (origin ∷ origins) = IsReadAt language files entry.profile origin × AreReadAt language files entries origins
AreReadAt language files _ _ = ⊥

-- the first origin of a name is that of a profile
abbrev pub IsFoundAt : Language → List File → List Origin → List ℕ → Profile → Type 0
IsFoundAt language files origins name profile = (origin : Origin) × (origin_in name origins ≡ Some origin) × IsReadAt language files profile origin

-- the rules of a profile's own block, or of the child or hat at an index of it
abbrev pub block_at : WrittenProfile → Option ℕ → Option (List WrittenRule)
block_at profile None = Some (rules_in profile.members)
block_at profile (Some place) = option_map (λ child. child.rules) (slice_get (children_in profile.members) place)

-- A file has a block of rules: one of the profiles has it that its tokens make by the grammar of a language, and the variables are the file's own.
pub record HasBlock (language : Language) (files : List File) (name : List ℕ) (child : Option ℕ) (variables : List Variable) (block : List WrittenRule) : Type 0 where
  pub tokens : List Placed
  pub written : WrittenFile
  pub profile : WrittenProfile
  pub spelled : spliced files name ≡ Ok tokens
  pub made : file language tokens ≡ Ok written
  pub with : variables_of written.assignments (of_profiles written.profiles) ≡ Ok variables
  pub among : Contains written.profiles profile
  pub is : block_at profile child ≡ Some block

-- Rules are written in a file, in a profile's own block or in that of the child or hat at an index of it: each is made by a rule of that block with
-- the file's variables, and the corresponding place is where that one is written. There are as many places as rules.
abbrev pub AreWrittenIn : Language → List File → List ℕ → Option ℕ → List Rule → List (Option Place) → Type 0
AreWrittenIn language files name child rules places =
    (variables : List Variable) × (block : List WrittenRule)
    × HasBlock language files name child variables block × AreMadeAt language variables block rules places

-- the rules of a part are written in the file that it is read from
abbrev pub IsPartWritten : Language → List File → Part → Type 0
IsPartWritten language files part = (child : Option ℕ) × AreWrittenIn language files part.file child part.section.rules part.places
