-- The whole paths by which files of a folder of policy include other files in it (docs/aatry.md).
use Rattle.std.specs.Prelude.{◌≡◌, ℕ, List, Option, Some, MatchBool}
use Rattle.std.specs.Option.{option_map}
use Rattle.aa_bytes.specs.Bytes.{slash}
use Rattle.aa_bytes.specs.Texts.{begins_with_byte}
use Rattle.aa_text_files.specs.Files.{File}
use Rattle.aa_start.specs.Gathering.{names_of}
use Rattle.aa_start.specs.Known.{Known}
use Rattle.aa_start.specs.Readable.{AreTakenSo}
use Rattle.aa_start.specs.declared.readable.UnreadFault.{UnreadFault}
use Rattle.aatry_folder.specs.Told.{ToldFolders}
use Rattle.aatry_folder.specs.WholeNames.{front_at, whole_names}

-- The beginning of the whole path of each file below a folder, if the folder has one: its own path where that is whole, and else the one that this
-- leads to.
abbrev pub IsFront : ToldFolders → List ℕ → Option (List ℕ) → Type 0
IsFront folders base front =
    MatchBool (begins_with_byte slash base) (front ≡ Some (front_at base))
    ((found : Option (List ℕ)) × folders.IsWhole base found × (front ≡ option_map front_at found))

-- Some names are those whole paths of others that includes look up, of the files of these names as they were read.
pub record AreAskedWhole (folders : ToldFolders) (known : Known) (base : List ℕ) (names whole : List (List ℕ)) : Type 0 where
  pub files : List File
  pub unread : List (Option UnreadFault)
  pub named : names_of files ≡ names
  pub read : AreTakenSo known base files unread
  pub front : Option (List ℕ)
  pub leads : IsFront folders base front
  pub asked : whole ≡ whole_names front names files
