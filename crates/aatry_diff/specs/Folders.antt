-- Two folders of policy that are compared, by their profiles, children and hats.
use Rattle.std.specs.Prelude.{List, map}
use Rattle.aatry_diff.specs.NewlyLeftOut.{newly}
use Rattle.aatry_folder.specs.Loadings.{file_names, seen_top}
use Rattle.aatry_diff.specs.declared.folders.BothFolders.{BothFolders as CodeFolders}
use Rattle.aatry_policy.specs.FolderParts.{FolderParts, seen_folder}
use Rattle.aatry_policy.specs.Folders.{below, seen_folder as seen_policy}
use Rattle.aatry_policy.specs.LeftOut.{LeftOut, left_out_of}
use Rattle.aatry_policy.specs.Parts.{set_parts}
use Rattle.aatry_policy.specs.declared.folder.LoadedFolder.{LoadedFolder}

pub record BothFolders : Type 0 where
  pub old : FolderParts
  pub new : FolderParts

-- the folders of the code
abbrev pub seen_folders : CodeFolders → BothFolders
seen_folders folders = record { old = seen_folder folders.old; new = seen_folder folders.new }

-- the files that are left out of what is loaded of a folder
abbrev pub left_out_loaded : LoadedFolder → List LeftOut
left_out_loaded loaded = left_out_of (file_names (map seen_top loaded.folder.now.top.items)) loaded.policy.outcomes.items

-- the newly left-out files
abbrev pub newly_loaded : LoadedFolder → LoadedFolder → List LeftOut
newly_loaded old new = newly (left_out_loaded old) (left_out_loaded new)

-- a folder by the parts of what is loaded of it
abbrev pub seen_loaded : LoadedFolder → FolderParts
seen_loaded loaded = record {
  below = below (seen_policy loaded.folder.now);
  parts = set_parts loaded.policy.manager.machine.now loaded.policy.origins.items;
}

-- two folders by the parts of what is loaded of them
abbrev pub both_loaded : LoadedFolder → LoadedFolder → BothFolders
both_loaded old new = record { old = seen_loaded old; new = seen_loaded new }
