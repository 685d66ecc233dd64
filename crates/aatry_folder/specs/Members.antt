-- The members of a folder, each by its name, a folder's with `/` at its end; and their names below the base.
use Rattle.std.specs.Prelude.{ℕ, ◌-◌, Bool, ◌||◌, not, if◌then◌else◌, List, ◌++◌, length, take, map, filter, Vec, String, string_bytes}
use Rattle.aa_bytes.specs.Texts.{is_empty}
use Rattle.aa_text_files.specs.Files.{is_folder_name}
use Rattle.aatry_folder.specs.PassedOver.{is_kept_aside, is_passed_over}

-- the names that strings hold
abbrev pub texts_of : {A B : Type 0} → Vec (String A) B → List (List ℕ)
texts_of names = map string_bytes names.items

-- a folder by its name below the base; the base itself has no name
abbrev pub is_folder : List ℕ → Bool
is_folder name = is_empty name || is_folder_name name

-- a name without the `/` at the end of a folder's name
abbrev pub without_slash : List ℕ → List ℕ
without_slash name = if is_folder_name name then take (length name - 1) name else name

-- a member is taken where its name isn't passed over, and it is no folder that is kept aside
unfoldable pub is_taken : List ℕ → Bool
is_taken member = not (is_passed_over (without_slash member) || is_kept_aside member)

-- the names of a folder's members that are taken, below the base: each follows the folder's own
abbrev pub names_in : List ℕ → List (List ℕ) → List (List ℕ)
names_in folder members = map (λ member. folder ++ member) (filter is_taken members)
