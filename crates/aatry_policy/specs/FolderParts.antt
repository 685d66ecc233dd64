-- Folders of policy by their parts.
use Rattle.std.specs.Prelude.{List, map}
use Rattle.aatry_folder.specs.PolicyFiles.{PolicyFiles, seen_files}
use Rattle.aatry_policy.specs.Folders.{Folder, below, origins_in, policy_in}
use Rattle.aatry_policy.specs.Parts.{Part, set_parts}
use Rattle.aatry_policy.specs.SeenProfiles.{seen_part}
use Rattle.aatry_policy.specs.declared.folder_parts.FolderParts.{FolderParts as CodeFolder}

-- a folder of policy: what lies below it, and its profiles, children and hats
pub record FolderParts : Type 0 where
  pub below : PolicyFiles
  pub parts : List Part

-- a folder of the code
abbrev pub seen_folder : CodeFolder → FolderParts
seen_folder folder = record { below = seen_files folder.below; parts = map seen_part folder.parts.now }

-- the profiles, children and hats of its policy set, with where they are written
abbrev pub parts_in : Folder → List Part
parts_in folder = set_parts (policy_in folder) (origins_in folder)

-- a folder by these
abbrev pub by_parts : Folder → FolderParts
by_parts folder = record { below = below folder; parts = parts_in folder }
