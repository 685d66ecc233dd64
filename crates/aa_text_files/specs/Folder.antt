-- The direct members of a folder, in the order of their names (docs/policy.md, "Includes").
use Rattle.std.specs.Prelude.{ℕ, ◌+◌, Bool, true, false, not, ◌==◌, ◌&&◌, ◌||◌, nat_lt, if◌then◌else◌, List, [], ◌∷◌, length, drop}
use Rattle.aa_bytes.specs.Bytes.{slash}
use Rattle.aa_bytes.specs.Texts.{begins_with, has_byte}
use Rattle.aa_text_files.specs.Files.{File, name_at}

-- a name is a direct member of a folder: it begins with the folder's name, and the rest isn't empty and has no `/`
abbrev pub is_member : List ℕ → List ℕ → Bool
is_member folder name =
    let rest = drop (length folder) name in
    begins_with folder name && not (length rest == 0) && not (has_byte slash rest)

-- one text is before another in the order of bytes
abbrev pub is_before : List ℕ → List ℕ → Bool
is_before [] [] = false
is_before [] (d ∷ ds) = true
is_before (b ∷ bs) [] = false
is_before (b ∷ bs) (d ∷ ds) = nat_lt b d || (b == d && is_before bs ds)

-- one file comes before another: by their names
abbrev pub comes_before : List File → ℕ → ℕ → Bool
comes_before files one other = is_before (name_at files one) (name_at files other)

-- a file inserted into others, which are in the order of their names
abbrev pub in_order : List File → ℕ → List ℕ → List ℕ
in_order files file [] = file ∷ []
in_order files file (other ∷ others) = if comes_before files file other then file ∷ other ∷ others else other ∷ in_order files file others

-- the direct members of a folder from a place on, in the order of their names
unfoldable pub members_from : List File → ℕ → List ℕ → List File → List ℕ
members_from all at folder [] = []
members_from all at folder (file ∷ files) =
    if is_member folder file.0 then in_order all at (members_from all (at + 1) folder files) else members_from all (at + 1) folder files

abbrev pub members : List File → List ℕ → List ℕ
members files folder = members_from files 0 folder files
