-- The rule before the one for which a file is refused, with which the refused rule conflicts: the first such rule of its profile, child or hat
-- (docs/policy.md, "Rules that conflict").
use Rattle.std.specs.Prelude.{ℕ, Bool, false, ◌==◌, ◌&&◌, if◌then◌else◌, List, [], ◌∷◌, map, slice_get, take, Option, None, Some, Result, Ok, Err}
use Rattle.aa_text_files.specs.Files.{File as HandedIn}
use Rattle.aa_text_files.specs.declared.text_error.Place.{Place}
use Rattle.aa_text_tokens.specs.Splicing.{Placed, spliced}
use Rattle.aa_text_variables.specs.Variables.{Variable}
use Rattle.aa_profile.specs.Assignments.{variables_of}
use Rattle.aa_profile.specs.FileReading.{file_profiles_in}
use Rattle.aa_profile_data.specs.Conflicts.{conflict, first_conflict}
use Rattle.aa_profile_data.specs.declared.profile.Child.{Child}
use Rattle.aa_profile_data.specs.declared.profile.Profile.{Profile}
use Rattle.aa_profile_data.specs.declared.profile.Rule.{Rule}
use Rattle.aa_profile_parsing.specs.declared.profile_error.ProfileError.{ProfileError}
use Rattle.aa_profile_parsing.specs.declared.profile_error.ProfileRefusal.{ProfileRefusal}
use Rattle.aa_profile_parsing.specs.declared.profile_error.ProfileRefusal.TheVariants.{ExecConflict}
use Rattle.aa_profile_grammar.specs.Files.{File, file}
use Rattle.aa_profile.specs.Profiles.{profile_of}
use Rattle.aa_profile_parsing.specs.declared.language.Language.{Language}
use Rattle.aa_profile_grammar.specs.PatternTokens.{of_profiles}
use Rattle.aa_profile_grammar.specs.Places.{places_of_profile}
use Rattle.aa_profile_grammar.specs.declared.places.ProfilePlaces.{ProfilePlaces}
use Rattle.aa_profile_grammar.specs.declared.places.SectionPlaces.{SectionPlaces}

-- a rule is at this place of a file, if it has a place
abbrev pub is_place : Option Place → Place → Bool
is_place None place = false
is_place (Some own) place = own.file == place.file && own.at == place.at

-- the rule of this number is at this place, by the places of all rules
abbrev pub stands_at : List (Option Place) → ℕ → Place → Bool
stands_at places number place = elim (slice_get places number) [ None ↦ false | Some own ↦ is_place own place ]

-- the place of the first of some rules with which a rule conflicts, by the places of these
abbrev pub first_opposed : Rule → List Rule → List (Option Place) → Option Place
first_opposed refused [] places = None
first_opposed refused (rule ∷ rules) [] = None
first_opposed refused (rule ∷ rules) (place ∷ places) = if conflict refused rule then place else first_opposed refused rules places

-- the place of the first rule before the rule of this number that conflicts with it
abbrev pub opposed_before : ℕ → List Rule → List (Option Place) → Option Place
opposed_before number rules places =
    elim (slice_get rules number) [ None ↦ None | Some refused ↦ first_opposed refused (take number rules) places ]

-- The place of the earlier rule in a profile, child or hat: its first rule that conflicts with one before it is at this place.
abbrev pub earlier_among : Place → List Rule → List (Option Place) → Option Place
earlier_among place rules places = elim (first_conflict [] rules) [
  | None ↦ None
  | Some number ↦ if stands_at places number place then opposed_before number rules places else None
]

-- the place of the earlier rule in the first of some children and hats that has one, by the places of their rules
abbrev pub earlier_in_children : Place → List Child → List SectionPlaces → Option Place
earlier_in_children place [] places = None
earlier_in_children place (child ∷ children) [] = None
earlier_in_children place (child ∷ children) (own ∷ places) = elim (earlier_among place child.rules own.rules) [
  | Some earlier ↦ Some earlier
  | None ↦ earlier_in_children place children places
]

-- the place of the earlier rule among a profile's own rules, or else in its children and hats
abbrev pub earlier_in_profile : Place → Profile → ProfilePlaces → Option Place
earlier_in_profile place profile places = elim (earlier_among place profile.rules places.own.rules) [
  | Some earlier ↦ Some earlier
  | None ↦ earlier_in_children place profile.children places.children
]

-- the place of the earlier rule in the first of some profiles that has one
abbrev pub earlier_in_profiles : Place → List Profile → List ProfilePlaces → Option Place
earlier_in_profiles place [] places = None
earlier_in_profiles place (profile ∷ profiles) [] = None
earlier_in_profiles place (profile ∷ profiles) (own ∷ places) = elim (earlier_in_profile place profile own) [
  | Some earlier ↦ Some earlier
  | None ↦ earlier_in_profiles place profiles places
]

-- the place of the earlier rule in the profiles that a file writes, with its variables
abbrev pub earlier_with : Language → List Variable → File → Place → Option Place
earlier_with language variables file place =
    earlier_in_profiles place (map (profile_of language variables) file.profiles) (map (places_of_profile language variables) file.profiles)

-- the place of the earlier rule in a file, if its variables can be worked out
abbrev pub earlier_in : Language → File → Place → Option Place
earlier_in language file place = elim (variables_of file.assignments (of_profiles file.profiles)) [
  | Err refusal ↦ None
  | Ok variables ↦ earlier_with language variables file place
]

-- the place of the earlier rule in tokens, if these make a file
abbrev pub earlier_of : Language → List Placed → Place → Option Place
earlier_of language tokens place = elim (file language tokens) [ Err error ↦ None | Ok file ↦ earlier_in language file place ]

-- the place of the earlier rule in a file of the handed-in ones, if its tokens can be spliced
abbrev pub earlier_in_file : Language → List HandedIn → List ℕ → Place → Option Place
earlier_in_file language files name place = elim (spliced files name) [ Err fault ↦ None | Ok tokens ↦ earlier_of language tokens place ]

-- the place of a refusal, if that is one for rules that conflict
abbrev pub place_of_conflict : ProfileRefusal → Option Place → Option Place
place_of_conflict ExecConflict place = place
place_of_conflict _ place = None

-- where the reading of a file is refused for rules that conflict, if it is refused for that
abbrev pub refused_at : Result (List Profile) ProfileError → Option Place
refused_at (Ok profiles) = None
refused_at (Err error) = place_of_conflict error.refusal error.place

-- Where a file of the handed-in ones, read by a language, is refused for rules that conflict, the place of the first rule before the refused one
-- that conflicts with it, in its profile, child or hat; of any other file none.
abbrev pub earlier_rule : Language → List HandedIn → List ℕ → Option Place
earlier_rule language files name =
    elim (refused_at (file_profiles_in language files name)) [ None ↦ None | Some place ↦ earlier_in_file language files name place ]
