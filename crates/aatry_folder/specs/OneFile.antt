-- A file at a path of its own.
use Rattle.std.specs.Prelude.{◌≡◌, ℕ, false, List, [], ◌∷◌, codes}
use Rattle.aa_text_files.specs.Files.{File, is_folder_name}
use Rattle.aa_start.specs.Gathering.{IsReadBelow}
use Rattle.aa_start.specs.Known.{Known}

-- The one of these files is that of this path: it has the bytes at that path, where they are known. A relative path starts in the current folder,
-- and one that ends in `/` is that of no file.
abbrev pub IsFileAt : Known → List ℕ → List File → Type 0
IsFileAt known path files =
    (bytes : List ℕ) × (files ≡ (path, bytes) ∷ []) × (is_folder_name path ≡ false) × IsReadBelow known (codes ".") (path, bytes)
