-- Names that are found in folders that stand before them.
use Rattle.std.proofs.Common.{◌≡◌, ◌<◌, ℕ, Bool, true, false, List, [], ◌∷◌, ◌++◌, refl, length, get_or, ap, sym, subst, append_assoc, ◌∙◌}
use Rattle.std.proofs.Common.{arith}
use Rattle.std.specs.Prelude.{IsTrue, MatchBool, Contains, cond, filter, map}
use Rattle.std.proofs.lemmas.List.{append-nil}
use Rattle.std.proofs.lemmas.List.Elements.{Contains-append_left, Contains-append_right, Contains-get_or}
use Rattle.aatry_folder.specs.Members.{is_folder, is_taken, names_in}
use Rattle.aatry_folder.specs.Told.{ToldFolders}
use Rattle.aatry_folder.specs.NamesBelow.{AreFound, IsFault, path_of}
use Rattle.aatry_folder.specs.code.Step.{ComeBehind, IsFaultBehind}
use Rattle.aatry_folder.specs.declared.below.FolderFault.{FolderFault}
use Rattle.aatry_folder.specs.declared.below.FolderFault.TheVariants.{Unreadable, TooMany, Memory}
use Rattle.aatry_folder.proofs.ListingLemmas.{told_members}

-- names that are found behind names that are found
pub AreFound-append : (told : ToldFolders) (base : List ℕ) (before names more : List (List ℕ))
    → AreFound told base before names → AreFound told base (before ++ names) more → AreFound told base before (names ++ more)
AreFound-append told base before [] more none found = subst (λ all. AreFound told base all more) (append-nil before) found
AreFound-append told base before (name ∷ names) more (first, rest) found = (
  first,
  AreFound-append told base (before ++ name ∷ []) names more rest
      (subst (λ all. AreFound told base all more) (sym (append_assoc before (name ∷ []) names)) found),
)

-- the names of the members of a folder are found that it is told to have
pub AreFound-members : (told : ToldFolders) (base : List ℕ) (before : List (List ℕ)) (folder : List ℕ) (all members : List (List ℕ))
    → Contains ([] ∷ before) folder → IsTrue (is_folder folder) → told.HasMembers (path_of base folder) all
    → ((member : List ℕ) → Contains members member → Contains all member)
    → AreFound told base before (names_in folder members)
AreFound-members told base before folder all [] among is_one has stand = tt
AreFound-members told base before folder all (member ∷ members) among is_one has stand =
    by (λ more. AreFound-members told base (before ++ more) folder all members (Contains-append_left ([] ∷ before) more folder among) is_one has
    (λ other there. stand other (Contains-append_right (member ∷ []) members other there))) (is_taken member) refl
  where
    by : ((more : List (List ℕ)) → AreFound told base (before ++ more) (names_in folder members)) → (b : Bool) → is_taken member ≡ b
        → AreFound told base before (map (λ name. folder ++ name) (cond b (member ∷ filter is_taken members) (filter is_taken members)))
    by rest true taken = (
      record {
        folder = folder;
        member = member;
        among = among;
        is_one = is_one;
        members = all;
        has = has;
        stands = stand member (Contains-append_left (member ∷ []) members member (0, omega arith, refl));
        taken = taken;
        joined = refl;
      },
      rest ((folder ++ member) ∷ []),
    )
    by rest false taken = subst (λ all. AreFound told base all (names_in folder members)) (append-nil before) (rest [])

-- what comes of a name among those that are found is found behind them
pub AreFound-step : (told : ToldFolders) (base : List ℕ) (names after : List (List ℕ)) (name : List ℕ)
    → Contains ([] ∷ names) name → ComeBehind told base name names after → AreFound told base [] names → AreFound told base [] after
AreFound-step told base names after name among (more, (members, may, come), stands) found = by (is_folder name) refl
  where
    behind : AreFound told base names (names_in name members) → AreFound told base [] after
    behind are = subst (AreFound told base []) (sym (stands ∙ ap (λ own. names ++ own) come))
        (AreFound-append told base [] names (names_in name members) found are)

    by : (b : Bool) → is_folder name ≡ b → AreFound told base [] after
    by true is_one = behind (AreFound-members told base names name members members among is_one (told_members told base name members is_one may)
        (λ member has. has))
    by false is_none =
        let none : members ≡ [] =
        subst (λ b. MatchBool b (told.HasMembers (path_of base name) members) (members ≡ [])) is_none may in
        behind (subst (λ all. AreFound told base names (names_in name all)) (sym none) tt)

-- the fault at a name among those that are found
pub IsFault-behind : (told : ToldFolders) (base : List ℕ) (names : List (List ℕ)) (name : List ℕ) (fault : FolderFault)
    → Contains ([] ∷ names) name → AreFound told base [] names → IsFaultBehind told base names name fault → IsFault told base fault
IsFault-behind told base names name (Unreadable text) among found (is_one, cannot, is_told) = (names, name, found, among, is_one, cannot, is_told)
IsFault-behind told base names name TooMany among found (after, come, many) =
    (after, AreFound-step told base names after name among come found, many)
IsFault-behind told base names name Memory among found h = tt

-- the name at a place is among the names, and so is the base
pub Contains-name_at : (names : List (List ℕ)) (at : ℕ) → at < length names → Contains ([] ∷ names) (get_or names at [])
Contains-name_at names at within = Contains-append_right ([] ∷ []) names (get_or names at []) (Contains-get_or names at [] within)

pub Contains-base : (names : List (List ℕ)) → Contains ([] ∷ names) []
Contains-base names = (0, omega arith, refl)
