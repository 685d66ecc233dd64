-- Names by which files and folders are read, and what is wrong with some.
use Rattle.std.specs.Prelude.{◌≡◌, ℕ, Bool, false, ◌||◌, List, [], All}
use Rattle.std.specs.List.{IsDistinct, list_any}
use Rattle.std.specs.Str.{bytes_eq}
use Rattle.aa_text_files.specs.Files.{is_bad_file}

-- A bad name: neither a file nor a folder has it, since it is empty or holds a control byte.
abbrev pub is_bad_name : List ℕ → Bool
is_bad_name name = is_bad_file name []

-- a name is one of these
abbrev pub is_among : List (List ℕ) → List ℕ → Bool
is_among names name = list_any (bytes_eq name) names

-- a name that can't come after these, whatever its file is: it is bad, or one of them
abbrev pub is_refused_behind : List (List ℕ) → List ℕ → Bool
is_refused_behind before name = is_bad_name name || is_among before name

-- names that may come together: none is bad, and they are different from each other
pub record AreGoodNames (names : List (List ℕ)) : Type 0 where
  pub good : All (λ name. is_bad_name name ≡ false) names
  pub different : IsDistinct bytes_eq names
