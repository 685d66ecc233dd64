-- The names of all files and folders below a folder of policy, the base, as far as they aren't passed over.
use Rattle.std.specs.Prelude.{◌≡◌, ◌<◌, ℕ, IsTrue, true, List, [], ◌∷◌, ◌++◌, length, codes, MatchBool, Contains, string_bytes}
use Rattle.aatry_folder.specs.Members.{is_folder, is_taken, names_in}
use Rattle.aatry_folder.specs.Told.{ToldFolders}
use Rattle.aatry_folder.specs.declared.below.FolderFault.{FolderFault}
use Rattle.aatry_folder.specs.declared.below.FolderFault.TheVariants.{Unreadable, TooMany, Memory}

-- how many names may be found
abbrev pub most_names : ℕ
most_names = 65536

-- the path of a file or folder by its name below the base; the base itself has no name
abbrev pub path_of : List ℕ → List ℕ → List ℕ
path_of base [] = base
path_of base (b ∷ name) = (base ++ codes "/") ++ b ∷ name

-- the name of a folder in a fault: its name, and the base by its path
abbrev pub told_name : List ℕ → List ℕ → List ℕ
told_name base [] = base
told_name base (b ∷ name) = b ∷ name

-- The members that a name may have: a folder those that the file system answers, and a file none.
abbrev pub MayHave : ToldFolders → List ℕ → List ℕ → List (List ℕ) → Type 0
MayHave told base name members = MatchBool (is_folder name) (told.HasMembers (path_of base name) members) (members ≡ [])

-- what was answered of a name below the base: its members
pub record Answer : Type 0 where
  pub name : List ℕ
  pub members : List (List ℕ)

-- For each of these names there is one answer, in their order: for a folder what the file system answered, and for a file no members.
abbrev pub AreAnswers : ToldFolders → List ℕ → List (List ℕ) → List Answer → Type 0
AreAnswers told base [] answers = answers ≡ []
AreAnswers told base (name ∷ names) answers =
    (members : List (List ℕ)) × (more : List Answer) × MayHave told base name members
    × (answers ≡ record { name = name; members = members } ∷ more) × AreAnswers told base names more

-- the names of all members that are answered and taken, one folder's after the other's
abbrev pub names_answered : List Answer → List (List ℕ)
names_answered [] = []
names_answered (answer ∷ answers) = names_in answer.name answer.members ++ names_answered answers

-- The base and each folder among the names was asked for its members, and the names are those of all members that were answered and are taken.
pub record IsWalk (told : ToldFolders) (base : List ℕ) (answers : List Answer) (names : List (List ℕ)) : Type 0 where
  pub answered : AreAnswers told base ([] ∷ names) answers
  pub listed : names ≡ names_answered answers

-- A name is that of a taken member of the base, or of a folder among those before.
pub record IsMemberBehind (told : ToldFolders) (base : List ℕ) (before : List (List ℕ)) (name : List ℕ) : Type 0 where
  pub folder : List ℕ
  pub member : List ℕ
  pub among : Contains ([] ∷ before) folder
  pub is_one : IsTrue (is_folder folder)
  pub members : List (List ℕ)
  pub has : told.HasMembers (path_of base folder) members
  pub stands : Contains members member
  pub taken : is_taken member ≡ true
  pub joined : name ≡ folder ++ member

-- Each name is found: in the base, or in a folder before it.
abbrev pub AreFound : ToldFolders → List ℕ → List (List ℕ) → List (List ℕ) → Type 0
AreFound told base before [] = Unit {0}
AreFound told base before (name ∷ names) = IsMemberBehind told base before name × AreFound told base (before ++ name ∷ []) names

-- Why names can't be listed: a folder that was found can't be read, by the file system, or more names than may be are found.
abbrev pub IsFault : ToldFolders → List ℕ → FolderFault → Type 0
IsFault told base (Unreadable text) =
    (names : List (List ℕ)) × (folder : List ℕ) × AreFound told base [] names × Contains ([] ∷ names) folder
    × IsTrue (is_folder folder) × told.IsUnreadable (path_of base folder) × (string_bytes text ≡ told_name base folder)
IsFault told base TooMany = (names : List (List ℕ)) × AreFound told base [] names × (most_names < length names)
IsFault told base Memory = Unit {0}
