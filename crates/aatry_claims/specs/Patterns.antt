-- The patterns that the pattern of a question stands for (docs/aatry.md).
use Rattle.std.specs.Prelude.{ℕ, Bool, not, ◌&&◌, [], ◌++◌, if◌then◌else◌, List, Option, None, codes}
use Rattle.std.specs.Option.{option_map}
use Rattle.aa_bytes.specs.Texts.{has_byte}
use Rattle.aa_profile.specs.FileReading.{file_profiles_in}
use Rattle.aa_profile_data.specs.FileRules.{file_patterns}
use Rattle.aa_profile_data.specs.declared.profile.Profile.{Profile}
use Rattle.aa_profile_parsing.specs.declared.language.Language.{Language}
use Rattle.aa_text_files.specs.Files.{File}
use Rattle.aatry_abstractions.specs.Probes.{only_profile, preamble, with_file, with_files}

-- a text can be written in quotes: it has none, and no line feed
abbrev pub can_stand : List ℕ → Bool
can_stand pattern = not (has_byte 34 pattern) && not (has_byte 10 pattern)

-- a file of one profile with one rule, which is on the files of a pattern, after the folder's variables: its name, which is none of a folder, and
-- its text
abbrev pub asked_name : List ℕ
asked_name = codes "asked//profile"

abbrev pub asked_text : List File → List ℕ → List ℕ
asked_text files pattern = preamble files ++ codes "profile asked { \"" ++ pattern ++ codes "\" r, }\n"

-- the files of a folder, followed by that one
unfoldable pub with_asked : List File → List ℕ → List File
with_asked files pattern = with_file (with_files [] files) (asked_name, asked_text files pattern)

-- the patterns of the rules of a profile, if there is one
abbrev pub patterns_by : Option Profile → Option (List (List ℕ))
patterns_by profile = option_map (λ profile. file_patterns profile.rules) profile

-- the profile of that file, if it can be read
unfoldable pub asked_profile : Language → List File → Option Profile
asked_profile language files = only_profile (file_profiles_in language files asked_name)

-- the patterns of a rule with the pattern, if that is accepted
abbrev pub asked_patterns : Language → List File → List ℕ → Option (List (List ℕ))
asked_patterns language files pattern =
    if can_stand pattern then patterns_by (asked_profile language (with_asked files pattern)) else None
