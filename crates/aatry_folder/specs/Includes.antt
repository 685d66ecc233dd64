-- Includes whose files don't exist, and what exists in a folder of policy.
use Rattle.std.specs.Prelude.{◌≡◌, ◌⊎◌, ℕ, IsTrue, false, true, List, [], ◌∷◌, ◌++◌, None, Ok, Contains, length}
use Rattle.aa_bytes.specs.Bytes.{slash}
use Rattle.aa_text_files.specs.Files.{File, bytes_at, file_at, has_file, is_folder_name}
use Rattle.aa_text_files.specs.declared.text_error.Place.{Place}
use Rattle.aa_text_tokens.specs.Splicing.{looked_up}
use Rattle.aa_text_tokens.specs.Cut.{Seen, cut}
use Rattle.aa_text_tokens.specs.declared.cut.TokenKind.TheVariants.{Include}
use Rattle.aatry_folder.specs.Members.{is_folder, is_taken}
use Rattle.aatry_folder.specs.NamesBelow.{Answer, path_of}
use Rattle.aatry_folder.specs.Told.{ToldFolders}

-- a folder of this name below the base has the member, and that isn't passed over
pub record IsMember (Has : List ℕ → List (List ℕ) → Type 0) (folder : List ℕ) (member : List ℕ) : Type 0 where
  pub is_one : IsTrue (is_folder folder)
  pub members : List (List ℕ)
  pub has : Has folder members
  pub among : Contains members member
  pub taken : is_taken member ≡ true

-- A chain leads from a folder down to a name: its first member is in the folder, and each other one in the folder to which those before it lead.
abbrev pub LeadsTo : (List ℕ → List (List ℕ) → Type 0) → List ℕ → List (List ℕ) → List ℕ → Type 0
LeadsTo Has folder [] name = name ≡ folder
LeadsTo Has folder (member ∷ way) name = IsMember Has folder member × LeadsTo Has (folder ++ member) way name

-- A file or folder of this name exists in the folder of policy and isn't passed over: a chain leads down to it, by the members that folders have.
abbrev pub Stands : (List ℕ → List (List ℕ) → Type 0) → List ℕ → Type 0
Stands Has name = (member : List ℕ) × (way : List (List ℕ)) × LeadsTo Has [] (member ∷ way) name

-- the members that a folder of this name has by what was answered when it was asked
abbrev pub Answered : List Answer → List ℕ → List (List ℕ) → Type 0
Answered answers folder members = Contains answers (record { name = folder; members = members })

-- the members that it has by whatever the file system answers, of the folder at its path below the base
abbrev pub ToldBelow : ToldFolders → List ℕ → List ℕ → List (List ℕ) → Type 0
ToldBelow told base folder members = told.HasMembers (path_of base folder) members

-- The file system always gives the same answer on a folder.
abbrev pub IsSteady : ToldFolders → Type 0
IsSteady told = (path : List ℕ) (one other : List (List ℕ)) → told.HasMembers path one → told.HasMembers path other → one ≡ other

-- An include that has to find something is at this place, and of what it looks up this holds.
pub record IsMissing (files : List File) (place : Place) (Holds : List ℕ → Type 0) : Type 0 where
  pub tokens : List Seen
  pub token : Seen
  pub read : cut 0 0 false (bytes_at files place.file) ≡ Ok tokens
  pub among : Contains tokens token
  pub asks : token.kind ≡ Include false
  pub there : token.start ≡ place.at
  pub holds : (length token.text ≡ 0) ⊎ Holds token.text

-- the files have none of the name that is looked up, and no folder of it
abbrev pub Lacks : List File → List ℕ → Type 0
Lacks files name = (file_at files (looked_up name) ≡ None) × (has_file files (looked_up name ++ slash ∷ []) ≡ false)

-- the files have none of this name
abbrev pub IsMissingAsAWhole : List File → List ℕ → Type 0
IsMissingAsAWhole files name = file_at files name ≡ None

-- No file of the name that is looked up exists in the folder of policy, and no folder of it. That name may itself end like a folder's, as no file's
-- does.
abbrev pub NothingStandsFor : (List ℕ → List (List ℕ) → Type 0) → List ℕ → Type 0
NothingStandsFor Has name =
    (is_folder_name (looked_up name) ≡ false → Stands Has (looked_up name) → ⊥)
    × (Stands Has (looked_up name ++ slash ∷ []) → ⊥)
