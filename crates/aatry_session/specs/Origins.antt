-- Where the profiles of a session's changes were read.
use Rattle.std.specs.Prelude.{ℕ, List, [], Option, None, Some, fold, take}
use Rattle.aa_profile_parsing.specs.declared.language.Language.{Language}
use Rattle.aa_set_commands.specs.Command.{PolicyChange, Add, Replace}
use Rattle.aa_text_files.specs.Files.{File}
use Rattle.aatry_policy.specs.Origins.{origin_in, origins_of}
use Rattle.aatry_policy.specs.Profiles.{file_at}
use Rattle.aatry_policy.specs.declared.origins.Origin.{Origin}

-- where the profiles of a file are read by a language, if it is read at all
abbrev pub origins_at : Language → List File → List ℕ → List Origin
origins_at language files name = origins_of (file_at language files name)

-- where the profiles are read that a change loads: those of a file that is added or replaced; any other change loads none
abbrev pub change_origins : Language → List File → PolicyChange → List Origin
change_origins language files (Add file) = origins_at language files file
change_origins language files (Replace file) = origins_at language files file
change_origins language files _ = []

-- where the profile of a name was read: by a change that loaded one of the name, or else what was known before it
abbrev pub newer_origin : List ℕ → Option Origin → List Origin → Option Origin
newer_origin name before own = elim (origin_in name own) [ None ↦ before | Some origin ↦ Some origin ]

-- where the profile of a name was read, by the last of some changes that loaded one of the name
abbrev pub last_origin : List ℕ → List (List Origin) → Option Origin
last_origin name origins = fold (newer_origin name) None origins

-- where the profile of a name was read, where the first so many changes are done: the others don't count
abbrev pub origin_among : List ℕ → ℕ → List (List Origin) → Option Origin
origin_among name done origins = last_origin name (take done origins)

-- an origin of which only the file is still known
abbrev pub unplaced_origin : Origin → Origin
unplaced_origin origin = record origin { places = None }
