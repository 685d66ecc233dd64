-- The members of a folder as they are collected, before they are sorted.
use Rattle.std.specs.Prelude.{ℕ, List, [], ◌∷◌, ◌++◌, if◌then◌else◌}
use Rattle.aa_text_files.specs.Files.{File, name_at}
use Rattle.aa_text_files.specs.Folder.{is_member}

-- the members that were found, followed by a file if it is one
abbrev pub with_member : List File → List ℕ → ℕ → List ℕ → List ℕ
with_member files folder file found = if is_member folder (name_at files file) then found ++ file ∷ [] else found
