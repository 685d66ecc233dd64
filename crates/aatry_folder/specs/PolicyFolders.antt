-- Folders of policy that were read: what lies below them, and the files at their top.
use Rattle.std.specs.Prelude.{◌≡◌, ℕ, Bool, not, ◌||◌, if◌then◌else◌, List, [], ◌∷◌, ◌++◌, All, Option, None, Some, filter}
use Rattle.aa_bytes.specs.Bytes.{slash}
use Rattle.aa_bytes.specs.Texts.{begins_with_byte, has_byte}
use Rattle.aa_text_files.specs.Files.{File}
use Rattle.aa_start.specs.Gathering.{IsTakable, names_of}
use Rattle.aa_start.specs.Known.{Known}
use Rattle.aa_start.specs.Readable.{AreTakenSo}
use Rattle.aa_start.specs.declared.readable.UnreadFault.{UnreadFault}
use Rattle.aatry_folder.specs.NamesBelow.{Answer, AreFound, IsWalk}
use Rattle.aatry_folder.specs.Told.{ToldFolders}
use Rattle.aatry_folder.specs.Whole.{AreAskedWhole}

-- a file at the top of the folder: its name has no slash
abbrev pub is_at_top : List ℕ → Bool
is_at_top name = not (has_byte slash name)

abbrev pub top_names : List (List ℕ) → List (List ℕ)
top_names names = filter is_at_top names

-- the name of a file that wasn't read, and isn't at the top; where it is a whole path, another name of the file is tried
abbrev pub unread_if : List ℕ → Option UnreadFault → List (List ℕ)
unread_if name None = []
unread_if name (Some fault) = if is_at_top name || begins_with_byte slash name then [] else name ∷ []

-- the names of those of some files, by why each wasn't read, if it wasn't
abbrev pub unread_below : List (List ℕ) → List (Option UnreadFault) → List (List ℕ)
unread_below (name ∷ names) (fault ∷ unread) = unread_if name fault ++ unread_below names unread
unread_below _ _ = []

-- The files that are tried: those at the top, followed by all others that weren't read, of which nothing can be taken.
abbrev pub tried_names : List (List ℕ) → List (Option UnreadFault) → List (List ℕ)
tried_names names unread = top_names names ++ unread_below names unread

-- Files and folders are those below the folder of policy: they come of a walk, in which each folder was asked for its members, so that each that
-- exists there and isn't passed over is among them; no other is, and those that includes look up by their whole paths follow them all by these once
-- more. Each has the bytes at its path, where these are known, or there is a reason why it wasn't read, and a text that is refused is in its place.
pub record AreBelow (folders : ToldFolders) (known : Known) (base : List ℕ) (files : List File) (unread : List (Option UnreadFault)) : Type 0 where
  pub answers : List Answer
  pub names : List (List ℕ)
  pub whole : List (List ℕ)
  pub walked : IsWalk folders base answers names
  pub found : AreFound folders base [] names
  pub asked : AreAskedWhole folders known base names whole
  pub named : names_of files ≡ names ++ whole
  pub takable : All IsTakable files
  pub read : AreTakenSo known base files unread
