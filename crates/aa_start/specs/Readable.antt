-- The files that are read where some of them can't be.
use Rattle.std.specs.Prelude.{◌≡◌, ℕ, IsTrue, List, [], ◌∷◌, ◌++◌, Option, None, Some, codes, option_map, slice_index_or, string_bytes}
use Rattle.aa_text_files.specs.Files.{File}
use Rattle.aa_text_files.specs.declared.text_error.Place.{Place}
use Rattle.aa_start.specs.Gathering.{IsReadBelow, IsTooLongBelow, IsUnreadBelow}
use Rattle.aa_start.specs.Known.{Known}
use Rattle.aa_start.specs.Names.{AreGoodNames, is_refused_behind}
use Rattle.aa_start.specs.declared.gathering.GatherFault.{GatherFault}
use Rattle.aa_start.specs.declared.gathering.GatherFault.TheVariants.{Untaken, Memory}
use Rattle.aa_start.specs.declared.readable.UnreadFault.{UnreadFault}
use Rattle.aa_start.specs.declared.readable.UnreadFault.TheVariants.{Unreadable, TooLong}

-- why a file wasn't read, in words
abbrev pub words_of : UnreadFault → List ℕ
words_of Unreadable = codes "the file can't be read"
words_of TooLong = codes "the file is longer than 16,777,216 bytes"

-- the bytes of a file that wasn't read: an include of no name, which is refused wherever it is entered
abbrev pub stand_in : List ℕ
stand_in = codes "include <> # not read"

-- A file wasn't read, by its name, since it can't be opened or read, or is too long.
abbrev pub IsUnread : Known → List ℕ → List ℕ → UnreadFault → Type 0
IsUnread known base name Unreadable = IsUnreadBelow known base name
IsUnread known base name TooLong = IsTooLongBelow known base name

-- A file was read, and has the bytes that are at the path of its name, where these are known; or there is a reason why it wasn't, and its bytes are
-- those of such a file.
abbrev pub IsTakenSo : Known → List ℕ → File → Option UnreadFault → Type 0
IsTakenSo known base file None = IsReadBelow known base file
IsTakenSo known base file (Some fault) = (file.1 ≡ stand_in) × IsUnread known base file.0 fault

-- each of some files was read or not: there is a reason for exactly those that weren't
abbrev pub AreTakenSo : Known → List ℕ → List File → List (Option UnreadFault) → Type 0
AreTakenSo known base [] unread = unread ≡ []
AreTakenSo known base (file ∷ files) [] = ⊥
AreTakenSo known base (file ∷ files) (fault ∷ unread) = IsTakenSo known base file fault × AreTakenSo known base files unread

-- why the file at an index wasn't read; nothing where it was
abbrev pub unread_at : List (Option UnreadFault) → ℕ → Option UnreadFault
unread_at unread file = slice_index_or unread file None

-- the file of a place, and why it wasn't read; nothing where it was, or where there is no place
abbrev pub unread_in : List (Option UnreadFault) → Option Place → Option (ℕ × UnreadFault)
unread_in unread None = None
unread_in unread (Some place) = option_map (λ fault. (place.file, fault)) (unread_at unread place.file)

-- The refusal of a name after these names it, whatever its file is. Memory may run out at any name.
abbrev pub IsRefusalBehind : List (List ℕ) → List ℕ → GatherFault → Type 0
IsRefusalBehind before name (Untaken text) = (string_bytes text ≡ name) × IsTrue (is_refused_behind before name)
IsRefusalBehind before name Memory = Unit {0}

-- The refusal is that of the first refused name: those before it are good and different from each other.
pub record IsFirstRefusal (names : List (List ℕ)) (fault : GatherFault) : Type 0 where
  pub before : List (List ℕ)
  pub name : List ℕ
  pub behind : List (List ℕ)
  pub stands : names ≡ before ++ name ∷ behind
  pub good : AreGoodNames before
  pub reported : IsRefusalBehind before name fault
