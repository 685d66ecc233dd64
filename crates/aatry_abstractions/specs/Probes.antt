-- Each abstraction of a folder, read as a profile reads it: by a file of its own that includes it, after the variables with which stock policy's
-- profiles begin (docs/aatry.md, "`aatry log`").
use Rattle.std.specs.Prelude.{ℕ, Bool, false, ◌&&◌, ◌||◌, not, if◌then◌else◌, List, [], ◌∷◌, ◌++◌, Option, None, Some, Result, Ok, Err, codes, flat_map, fold}
use Rattle.aa_bytes.specs.Texts.{begins_with}
use Rattle.aa_profile.specs.FileReading.{file_profiles_in}
use Rattle.aa_profile_data.specs.declared.profile.Profile.{Profile}
use Rattle.aa_profile_parsing.specs.declared.profile_error.ProfileError.{ProfileError}
use Rattle.aa_profile_parsing.specs.declared.language.Language.{Language}
use Rattle.aa_text_files.specs.Files.{File, has_file, is_bad_file, is_folder_name}

-- A name leads through a folder of additions, whose own name ends in `.d`: what lies in `base.d/` is included by `base`, and isn't to be included by
-- itself.
abbrev pub is_addition : List ℕ → Bool
is_addition [] = false
is_addition (b ∷ bs) = begins_with (codes ".d/") (b ∷ bs) || is_addition bs

-- a file is an abstraction: it lies below `abstractions/`, and is no addition
abbrev pub is_abstraction : List ℕ → Bool
is_abstraction name = begins_with (codes "abstractions/") name && not (is_folder_name name) && not (is_addition name)

-- the file with which stock policy's profiles begin
abbrev pub tunables : List ℕ
tunables = codes "tunables/global"

-- its include, where the folder has it
abbrev pub preamble : List File → List ℕ
preamble files = if has_file files tunables then codes "include <tunables/global>\n" else []

-- a file of one profile that includes an abstraction and nothing else: its name, which is none of a folder, and its text
abbrev pub probe_name : List ℕ → List ℕ
probe_name name = name ++ codes "//profile"

abbrev pub probe_text : List File → List ℕ → List ℕ
probe_text files name = preamble files ++ codes "profile probe { include <" ++ name ++ codes "> }\n"

abbrev pub probe : List File → List ℕ → File
probe files name = (probe_name name, probe_text files name)

-- the probe of a file, if it is an abstraction
abbrev pub probe_of : List File → File → List File
probe_of files file = if is_abstraction file.0 then probe files file.0 ∷ [] else []

abbrev pub probes : List File → List File
probes files = flat_map (probe_of files) files

-- files with one more after them, if it can be inserted
abbrev pub with_file : List File → File → List File
with_file files file = if is_bad_file file.0 file.1 || has_file files file.0 then files else files ++ file ∷ []

-- files with more after them, as far as these can be inserted
abbrev pub with_files : List File → List File → List File
with_files files more = fold with_file files more

-- the files of a folder, followed by the probe of each abstraction
abbrev pub probed : List File → List File
probed files = with_files (with_files [] files) (probes files)

-- the profile of a file that has one
abbrev pub only_profile : Result (List Profile) ProfileError → Option Profile
only_profile (Ok (profile ∷ [])) = Some profile
only_profile (Ok []) = None
only_profile (Ok (profile ∷ other ∷ more)) = None
only_profile (Err error) = None

-- an abstraction as a profile has it, if it can be read
abbrev pub abstraction : Language → List File → List ℕ → Option Profile
abstraction language files name = only_profile (file_profiles_in language files (probe_name name))
