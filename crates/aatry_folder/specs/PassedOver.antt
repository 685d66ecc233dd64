-- Names that apparmor_parser passes over among the members of a folder (libapparmor, where it goes through one).
use Rattle.std.specs.Prelude.{ℕ, Bool, ◌&&◌, ◌||◌, nat_eq, List, [], ◌∷◌, codes}
use Rattle.std.specs.List.{ends_with, list_any}
use Rattle.std.specs.Str.{bytes_eq}
use Rattle.aa_bytes.specs.Bytes.{dot}
use Rattle.aa_bytes.specs.Texts.{begins_with, begins_with_byte, is_empty}
use Rattle.aa_text_files.specs.Files.{is_folder_name}

-- what editors, Debian's, Arch's and RPM's packagers, and patch append to the names of files that they leave
abbrev pub leftover_endings : List (List ℕ)
leftover_endings =
    codes "~" ∷ codes ".dpkg-new" ∷ codes ".dpkg-old" ∷ codes ".dpkg-dist" ∷ codes ".dpkg-bak" ∷ codes ".dpkg-remove"
    ∷ codes ".pacsave" ∷ codes ".pacnew" ∷ codes ".rpmnew" ∷ codes ".rpmsave" ∷ codes ".orig" ∷ codes ".rej" ∷ []

-- a name ends like that of such a file
unfoldable pub is_leftover : List ℕ → Bool
is_leftover name = list_any (λ ending. ends_with nat_eq name ending) leftover_endings

-- a name that is passed over: an empty or hidden one, a README, or that of a file that was left
unfoldable pub is_passed_over : List ℕ → Bool
is_passed_over name = is_empty name || begins_with_byte dot name || bytes_eq name (codes "README") || is_leftover name

-- A folder in which apparmor_parser and what starts it keep what isn't policy: caches, and links to files that aren't to be loaded, or only in
-- complain mode. Its name has `/` at its end.
unfoldable pub is_kept_aside : List ℕ → Bool
is_kept_aside member =
    bytes_eq member (codes "disable/") || bytes_eq member (codes "force-complain/") || (is_folder_name member && begins_with (codes "cache") member)
