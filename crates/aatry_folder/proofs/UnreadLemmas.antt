-- What keeps a folder of policy, or a file, from being read.
use Rattle.std.proofs.Common.{◌≡◌, ℕ, Bool, true, false, List, [], ◌∷◌, ◌++◌, inl, inr, refl, subst}
use Rattle.std.specs.Prelude.{IsTrue, codes, ◌||◌}
use Rattle.aa_start.specs.Gathering.{IsFaultBehind, IsFirstFault}
use Rattle.aa_start.specs.Known.{Known}
use Rattle.aa_start.specs.Names.{is_bad_name}
use Rattle.aa_start.specs.Readable.{IsFirstRefusal}
use Rattle.aa_start.specs.declared.gathering.GatherFault.{GatherFault}
use Rattle.aa_start.specs.declared.gathering.GatherFault.TheVariants as files
use Rattle.aatry_folder.specs.Unread.{IsOfFile, IsOfFolder}
use Rattle.aatry_folder.specs.Faults.{fault_of_files, fault_of_folder}
use Rattle.aatry_folder.specs.NamesBelow.{Answer, AreFound, IsFault, IsWalk}
use Rattle.aatry_folder.specs.Told.{ToldFolders}
use Rattle.aatry_folder.specs.declared.below.FolderFault.{FolderFault}
use Rattle.aatry_folder.specs.declared.below.FolderFault.TheVariants as folder

-- the names can't be told
pub of_names : (folders : ToldFolders) (base : List ℕ) (given : FolderFault) → IsFault folders base given → IsOfFolder folders base (fault_of_folder given)
of_names folders base (folder.Unreadable name) fault = inl fault
of_names folders base folder.TooMany fault = fault
of_names folders base folder.Memory fault = tt

-- the files of the names can't be taken
pub of_files : (folders : ToldFolders) (base : List ℕ) (answers : List Answer) (names : List (List ℕ)) (given : GatherFault)
    → IsWalk folders base answers names → AreFound folders base [] names → IsFirstRefusal names given → IsOfFolder folders base (fault_of_files given)
of_files folders base answers names (files.Untaken name) walked found first =
    inr (record { answers = answers; names = names; walked = walked; found = found; first = first })
of_files folders base answers names files.Memory walked found first = tt

-- what stands in a list of one is that one
alone : (path : List ℕ) (before : List (List ℕ)) (name : List ℕ) (behind : List (List ℕ)) → path ∷ [] ≡ before ++ name ∷ behind
    → (before ≡ []) × (name ≡ path)
alone path [] name behind same = (refl, (cc))
alone path (other ∷ []) name behind same = cc
alone path (other ∷ next ∷ before) name behind same = cc

bad_alone : (b : Bool) → IsTrue (b || false) → IsTrue b
bad_alone true h = h
bad_alone false h = h

of_one : (known : Known) (path : List ℕ) (given : GatherFault) → IsFaultBehind known (codes ".") [] path given → IsOfFile known path (fault_of_files given)
of_one known path (files.Untaken name) (told, inl refused) = (told, inr (inl (bad_alone (is_bad_name path) refused)))
of_one known path (files.Untaken name) (told, inr unreadable) = (told, inr (inr unreadable))
of_one known path files.Memory fault = tt

-- the one file of a path can't be taken
pub of_file : (known : Known) (path : List ℕ) (given : GatherFault) → IsFirstFault known (codes ".") (path ∷ []) given
    → IsOfFile known path (fault_of_files given)
of_file known path given first =
    let (none, same) = alone path first.before first.name first.behind first.stands in
    of_one known path given
    (subst (λ name. IsFaultBehind known (codes ".") [] name given) same
    (subst (λ before. IsFaultBehind known (codes ".") before first.name given) none first.reported))
