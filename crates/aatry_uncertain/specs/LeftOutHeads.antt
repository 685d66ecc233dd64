-- The heads of profiles in files that are left out of a policy set.
use Rattle.std.specs.Prelude.{ℕ, Bool, List, [], Option, None, Some, flat_map, map}
use Rattle.std.specs.List.{list_any}
use Rattle.std.specs.Str.{bytes_eq}
use Rattle.aa_profile_data.specs.FullNames.{full_name}
use Rattle.aa_text_files.specs.Files.{File, bytes_of}
use Rattle.aatry_folder.specs.Loadings.{file_names, seen_top}
use Rattle.aatry_policy.specs.Folders.{Folder, files_left_out}
use Rattle.aatry_policy.specs.LeftOut.{LeftOut, left_out_of}
use Rattle.aatry_policy.specs.declared.folder.LoadedFolder.{LoadedFolder}
use Rattle.aatry_uncertain.specs.Heads.{Head, heads_of}

-- a head of a file that is left out, by its name in its folder
pub record LeftOutHead : Type 0 where
  pub file : List ℕ
  pub head : Head

abbrev pub in_file : List ℕ → Head → LeftOutHead
in_file file head = record { file = file; head = head }

-- the heads in the bytes of a file, if it has any
abbrev pub heads_in_bytes : List ℕ → Option (List ℕ) → List LeftOutHead
heads_in_bytes file None = []
heads_in_bytes file (Some bytes) = map (in_file file) (heads_of bytes)

-- the heads of a file that is left out
abbrev pub heads_in_file : List File → LeftOut → List LeftOutHead
heads_in_file files left_out = heads_in_bytes left_out.name (bytes_of files left_out.name)

-- the heads of some files that are left out
abbrev pub heads_in_files : List File → List LeftOut → List LeftOutHead
heads_in_files files left_out = flat_map (heads_in_file files) left_out

-- the heads of what is loaded of a folder
abbrev pub heads_loaded : LoadedFolder → List LeftOutHead
heads_loaded loaded =
    heads_in_files loaded.folder.now.files (left_out_of (file_names (map seen_top loaded.folder.now.top.items)) loaded.policy.outcomes.items)

-- the heads of all files of a folder that are left out
abbrev pub heads_left_out : Folder → List LeftOutHead
heads_left_out folder = heads_in_files folder.files (files_left_out folder)

-- one of some heads has the name of the profile in a full name
abbrev pub has_name : List LeftOutHead → List ℕ → Bool
has_name heads full = list_any (λ left_out. bytes_eq left_out.head.name (full_name full).profile) heads
