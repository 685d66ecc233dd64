-- The tokens and the grammar of a file that is refused for rules that conflict: they were read.
use Rattle.std.proofs.Common.{◌≡◌, ℕ, List, Some, Ok}
use Rattle.aa_explain_written.specs.EarlierRules.{refused_at}
use Rattle.aa_text_files.specs.Files.{File as HandedIn}
use Rattle.aa_text_files.specs.declared.text_error.Place.{Place}
use Rattle.aa_text_tokens.specs.Splicing.{Placed, spliced}
use Rattle.aa_profile.specs.FileReading.{file_profiles_in, profiles_in, profiles_of}
use Rattle.aa_profile_grammar.specs.Files.{File, file}
use Rattle.aa_profile_parsing.specs.declared.language.Language.{Language}

-- a file that is refused there is so by its profiles as they are written
pub refused-written : (language : Language) (files : List HandedIn) (name : List ℕ) (tokens : List Placed) (written : File) (place : Place) → spliced files name ≡ Ok tokens
    → file language tokens ≡ Ok written → refused_at (file_profiles_in language files name) ≡ Some place → refused_at (profiles_in language written) ≡ Some place
refused-written language files name tokens written place s f h = rw (file_profiles_in, s, profiles_of, f) at h
