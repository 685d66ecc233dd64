-- Files that aren't spliced give no profile.
use Rattle.std.proofs.Common.{◌≡◌, ℕ, true, false, List, Result, Ok, Err, refl}
use Rattle.std.specs.Prelude.{is_err}
use Rattle.aa_profile.specs.FileReading.{file_profiles_in, profiles_of}
use Rattle.aa_profile_data.specs.declared.profile.Profile.{Profile}
use Rattle.aa_profile_parsing.specs.ProfileError.{refusal_of_text}
use Rattle.aa_profile_parsing.specs.declared.profile_error.ProfileError.{ProfileError}
use Rattle.aa_profile_parsing.specs.declared.language.Language.{Language}
use Rattle.aa_text_files.specs.Files.{File}
use Rattle.aa_text_tokens.specs.Splicing.{Fault, Placed, spliced}

-- a file whose splicing comes to a fault is refused
pub refused-unspliced : (language : Language) (files : List File) (name : List ℕ) → is_err (spliced files name) ≡ true
    → is_err (file_profiles_in language files name) ≡ true
refused-unspliced language files name fails = by (spliced files name) fails
  where
    profiles : Result (List Placed) Fault → Result (List Profile) ProfileError
    profiles (Err fault) = Err (record { refusal = refusal_of_text fault.0; place = fault.1 })
    profiles (Ok tokens) = profiles_of language tokens

    by : (out : Result (List Placed) Fault) → is_err out ≡ true → is_err (profiles out) ≡ true
    by (Err fault) is = refl
    by (Ok tokens) is = absurd (let bad : false ≡ true = is in cc)
