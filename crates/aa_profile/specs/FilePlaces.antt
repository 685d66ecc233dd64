-- The places of the profiles of a file.
use Rattle.std.specs.Prelude.{ℕ, List, map, Option, None, Some, Ok, Err}
use Rattle.aa_text_files.specs.Files.{File as HandedIn}
use Rattle.aa_text_tokens.specs.Splicing.{Placed, spliced}
use Rattle.aa_profile_grammar.specs.Files.{File, file}
use Rattle.aa_profile_parsing.specs.declared.language.Language.TheVariants.{Three}
use Rattle.aa_profile_parsing.specs.declared.language.Language.{Language}
use Rattle.aa_profile_grammar.specs.PatternTokens.{of_profiles}
use Rattle.aa_profile_grammar.specs.Places.{places_of_profile}
use Rattle.aa_profile_grammar.specs.declared.places.ProfilePlaces.{ProfilePlaces}
use Rattle.aa_profile.specs.Assignments.{variables_of}

-- the places of a file's profiles, if its variables are accepted
abbrev pub places_in : Language → File → Option (List ProfilePlaces)
places_in language file = elim (variables_of file.assignments (of_profiles file.profiles)) [
  | Err refusal ↦ None
  | Ok variables ↦ Some (map (places_of_profile language variables) file.profiles)
]

-- the places of the profiles of tokens, if these make a file
abbrev pub places_of : Language → List Placed → Option (List ProfilePlaces)
places_of language tokens = elim (file language tokens) [ Err error ↦ None | Ok file ↦ places_in language file ]

-- the places of the profiles of a file among the files, read by a language, if its tokens can be spliced
abbrev pub file_places_in : Language → List HandedIn → List ℕ → Option (List ProfilePlaces)
file_places_in language files name = elim (spliced files name) [ Err fault ↦ None | Ok tokens ↦ places_of language tokens ]

-- the places of the profiles of a file, read by language 3
abbrev pub file_places : List HandedIn → List ℕ → Option (List ProfilePlaces)
file_places files name = file_places_in Three files name
