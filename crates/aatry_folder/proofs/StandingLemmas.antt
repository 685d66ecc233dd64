-- What stands in a folder of policy is among names that are closed.
use Rattle.std.proofs.Common.{◌≡◌, ◌+◌, ℕ, zero, suc, Bool, true, false, List, [], ◌∷◌, ◌++◌, None, Some, refl, ap, sym, subst, arith}
use Rattle.std.specs.Prelude.{IsTrue, Contains, cond, filter, map}
use Rattle.std.specs.Str.{bytes_eq}
use Rattle.std.proofs.lemmas.Slice.Eq.{bytes_eq-Decides}
use Rattle.std.proofs.lemmas.List.Elements.{Contains-append_left, Contains-append_right}
use Rattle.aa_bytes.specs.Bytes.{slash}
use Rattle.aa_text_files.specs.Files.{File, has_file, index_from, is_folder_name}
use Rattle.aa_text_tokens.specs.Splicing.{looked_up}
use Rattle.aa_start.specs.Gathering.{names_of}
use Rattle.aatry_folder.specs.Members.{is_folder, is_taken, names_in}
use Rattle.aatry_folder.specs.NamesBelow.{Answer, AreAnswers, IsWalk, MayHave, names_answered, path_of}
use Rattle.aatry_folder.specs.Includes.{Answered, IsMember, IsSteady, Lacks, LeadsTo, NothingStandsFor, Stands, ToldBelow}
use Rattle.aatry_folder.specs.Told.{ToldFolders}
use Rattle.aatry_folder.proofs.ListingLemmas.{told_members}

-- a taken member's name is among those of a folder's members
taken-name : (folder member : List ℕ) (members : List (List ℕ)) → Contains members member → is_taken member ≡ true → Contains (names_in folder members) (folder ++ member)
taken-name folder member [] (k, lt, at) taken = absurd (omega (arith, lt))
taken-name folder member (other ∷ members) has taken = by (λ rest. taken-name folder member members rest taken) (is_taken other) refl has
  where
    by : (Contains members member → Contains (names_in folder members) (folder ++ member)) → (b : Bool) → is_taken other ≡ b → Contains (other ∷ members) member
        → Contains (map (λ name. folder ++ name) (cond b (other ∷ filter is_taken members) (filter is_taken members))) (folder ++ member)
    by more true e (zero, lt, at) = (zero, omega arith, ap (λ name. folder ++ name) at)
    by more true e (suc k, lt, at) =
        Contains-append_right ((folder ++ other) ∷ []) (names_in folder members) (folder ++ member) (more (k, omega (arith, lt), at))
    by more false e (zero, lt, at) = let same : is_taken other ≡ true = subst (λ name. is_taken name ≡ true) (sym at) taken in absurd (cc)
    by more false e (suc k, lt, at) = more (k, omega (arith, lt), at)

-- a member that is answered of a folder and taken is among the names of all that is answered
answered-among : (answers : List Answer) (folder member : List ℕ) → IsMember (Answered answers) folder member → Contains (names_answered answers) (folder ++ member)
answered-among [] folder member one = absurd (omega (arith, one.has.1))
answered-among (answer ∷ answers) folder member one = by (answered-among answers folder member) one.has
  where
    rest : List (List ℕ)
    rest = names_answered answers

    by : (IsMember (Answered answers) folder member → Contains rest (folder ++ member)) → Answered (answer ∷ answers) folder one.members
        → Contains (names_in answer.name answer.members ++ rest) (folder ++ member)
    by more (zero, lt, at) = Contains-append_left (names_in answer.name answer.members) rest (folder ++ member)
        (subst (λ given. Contains (names_in given.name given.members) (folder ++ member)) (sym at)
        (taken-name folder member one.members one.among one.taken))
    by more (suc k, lt, at) = Contains-append_right (names_in answer.name answer.members) rest (folder ++ member)
        (more (record { is_one = one.is_one; members = one.members; has = (k, omega (arith, lt), at); among = one.among; taken = one.taken }))

-- of each folder among names there is an answer, which the file system told
folder-answered : (told : ToldFolders) (base : List ℕ) (names : List (List ℕ)) (answers : List Answer) (folder : List ℕ) → AreAnswers told base names answers
    → Contains names folder → IsTrue (is_folder folder) → (members : List (List ℕ)) × Answered answers folder members × ToldBelow told base folder members
folder-answered told base [] answers folder are (k, lt, at) is_one = absurd (omega (arith, lt))
folder-answered told base (name ∷ names) answers folder (members, more, may, all, rest) among is_one =
    by (λ others. folder-answered told base names more folder rest others is_one) among
  where
    by : (Contains names folder → (members : List (List ℕ)) × Answered more folder members × ToldBelow told base folder members)
        → Contains (name ∷ names) folder → (members : List (List ℕ)) × Answered answers folder members × ToldBelow told base folder members
    by behind (zero, lt, at) = (
      members,
      subst (λ given. Contains given (record { name = folder; members = members })) (sym all)
          (zero, omega arith, ap (λ own. record { name = own; members = members }) at),
      told_members told base folder members is_one (subst (λ own. MayHave told base own members) at may),
    )
    by behind (suc k, lt, at) =
        let (found, answered, is_told) = behind (k, omega (arith, lt), at) in (
          found,
          subst (λ given. Contains given (record { name = folder; members = found })) (sym all)
              (Contains-append_right (record { name = name; members = members } ∷ []) more (record { name = folder; members = found }) answered),
          is_told,
        )

module _ (told : ToldFolders) (base : List ℕ) (answers : List Answer) (names : List (List ℕ)) (walk : IsWalk told base answers names) where
  -- a member that is answered of a folder is among the names
  pub member-among : (folder member : List ℕ) → IsMember (Answered answers) folder member → Contains names (folder ++ member)
  member-among folder member one = subst (λ all. Contains all (folder ++ member)) (sym walk.listed) (answered-among answers folder member one)

  -- so is what a way leads to from one of them
  led-among : (folder : List ℕ) (way : List (List ℕ)) (name : List ℕ) → Contains names folder → LeadsTo (Answered answers) folder way name → Contains names name
  led-among folder [] name among same = subst (Contains names) (sym same) among
  led-among folder (member ∷ way) name among (one, rest) = led-among (folder ++ member) way name (member-among folder member one) rest

  pub stands-among : (name : List ℕ) → Stands (Answered answers) name → Contains names name
  stands-among name (member, way, stands) = led-among member way name (member-among [] member stands.0) stands.1

  pub asked-answered : (folder : List ℕ) → Contains ([] ∷ names) folder → IsTrue (is_folder folder)
      → (members : List (List ℕ)) × Answered answers folder members × ToldBelow told base folder members
  asked-answered folder among is_one = folder-answered told base ([] ∷ names) answers folder walk.answered among is_one

  -- a member that is told of a folder among the names is answered of it, where the same is told each time
  told-answered : (folder member : List ℕ) → IsSteady told → Contains ([] ∷ names) folder → IsMember (ToldBelow told base) folder member
      → IsMember (Answered answers) folder member
  told-answered folder member steady among one =
      let (members, answered, is_told) = asked-answered folder among one.is_one in
      let same : one.members ≡ members = steady (path_of base folder) one.members members one.has is_told in
      record {
        is_one = one.is_one;
        members = members;
        has = answered;
        among = subst (λ all. Contains all member) same one.among;
        taken = one.taken;
      }

  told-among : (folder member : List ℕ) → IsSteady told → Contains ([] ∷ names) folder → IsMember (ToldBelow told base) folder member
      → Contains names (folder ++ member)
  told-among folder member steady among one = member-among folder member (told-answered folder member steady among one)

  told-led : (folder : List ℕ) (way : List (List ℕ)) (name : List ℕ) → IsSteady told → Contains names folder → LeadsTo (ToldBelow told base) folder way name
      → Contains names name
  told-led folder [] name steady among same = subst (Contains names) (sym same) among
  told-led folder (member ∷ way) name steady among (one, rest) =
      told-led (folder ++ member) way name steady (told-among folder member steady (Contains-append_right ([] ∷ []) names folder among) one) rest

  pub told-stands : IsSteady told → (name : List ℕ) → Stands (ToldBelow told base) name → Contains names name
  told-stands steady name (member, way, stands) = told-led member way name steady (told-among [] member steady (zero, omega arith, refl) stands.0) stands.1

-- a name among those of files is that of one
among-has : (files : List File) (name : List ℕ) → Contains (names_of files) name → has_file files name ≡ true
among-has [] name (k, lt, at) = absurd (omega (arith, lt))
among-has (file ∷ files) name has = by (among-has files name) (bytes_eq name file.0) refl has
  where
    by : (Contains (names_of files) name → has_file files name ≡ true) → (b : Bool) → bytes_eq name file.0 ≡ b
        → Contains (names_of (file ∷ files)) name → has_file (file ∷ files) name ≡ true
    by more true e among = rw e refl
    by more false e (zero, lt, at) = let same : bytes_eq name file.0 ≡ true = (bytes_eq-Decides name file.0).1 (sym at) in absurd (cc)
    by more false e (suc k, lt, at) = rw e (more (k, omega (arith, lt), at))

-- and it has a place
among-index : (first : ℕ) (name : List ℕ) (files : List File) → Contains (names_of files) name → index_from first name files ≡ None → ⊥
among-index first name [] (k, lt, at) none = absurd (omega (arith, lt))
among-index first name (file ∷ files) has none = by (among-index (first + 1) name files) (bytes_eq name file.0) refl has none
  where
    by : (Contains (names_of files) name → index_from (first + 1) name files ≡ None → ⊥) → (b : Bool) → bytes_eq name file.0 ≡ b
        → Contains (names_of (file ∷ files)) name → index_from first name (file ∷ files) ≡ None → ⊥
    by more true e among none = let some : Some first ≡ None = rw e at none in absurd (cc)
    by more false e (zero, lt, at) none = let same : bytes_eq name file.0 ≡ true = (bytes_eq-Decides name file.0).1 (sym at) in absurd (cc)
    by more false e (suc k, lt, at) none = more (k, omega (arith, lt), at) (rw e at none)

-- what is among some names is among those of files that have these, and others behind them
pub among-more : (Has : List ℕ → List (List ℕ) → Type 0) (names others : List (List ℕ)) (files : List File) → names_of files ≡ names ++ others
    → ((text : List ℕ) → Stands Has text → Contains names text) → (text : List ℕ) → Stands Has text → Contains (names_of files) text
among-more Has names others files named among text stands =
    subst (λ all. Contains all text) (sym named) (Contains-append_left names others text (among text stands))

-- where files lack what a name looks up, and all that stands is among their names, nothing stands for it
pub lacked-nowhere : (Has : List ℕ → List (List ℕ) → Type 0) (files : List File) → ((text : List ℕ) → Stands Has text → Contains (names_of files) text)
    → (name : List ℕ) → Lacks files name → NothingStandsFor Has name
lacked-nowhere Has files among name (no_file, no_folder) = (file, folder)
  where
    file : is_folder_name (looked_up name) ≡ false → Stands Has (looked_up name) → ⊥
    file plain stands = among-index 0 (looked_up name) files (among (looked_up name) stands) (rw plain at no_file)

    folder : Stands Has (looked_up name ++ slash ∷ []) → ⊥
    folder stands =
        let there : has_file files (looked_up name ++ slash ∷ []) ≡ true =
        among-has files (looked_up name ++ slash ∷ []) (among (looked_up name ++ slash ∷ []) stands) in
        absurd (cc)
