-- Files with one more, and their places.
use Rattle.std.proofs.Common.{◌≡◌, ℕ, suc, ◌+◌, Bool, true, false, List, [], ◌∷◌, ◌++◌, length, refl, sym, ap, ◌∙◌, arith}
use Rattle.std.specs.Prelude.{if◌then◌else◌, Option, None, Some, option_map, is_some, Result, Ok, Err, OnOk, OnErr}
use Rattle.std.specs.Str.{bytes_eq}
use Rattle.std.proofs.lemmas.Slice.Eq.{bytes_eq-Decides}
use Rattle.aa_bytes.specs.NameMaps.{GivesNumber}
use Rattle.aa_bytes.specs.declared.name_map.NameMap.{NameMap}
use Rattle.aa_text_files.specs.Files.{AreTaken, File, are_good, bytes_at, file_named, has_file, have_names_of_their_own, index_from, is_bad_file}
use Rattle.aa_text_files.specs.code.Places.{ArePlaces}

-- where one text isn't another, neither is that one it
other-text : (one two : List ℕ) → bytes_eq one two ≡ false → bytes_eq two one ≡ false
other-text one two h = by (bytes_eq two one) refl
  where
    by : (b : Bool) → bytes_eq two one ≡ b → bytes_eq two one ≡ false
    by false e = e
    by true e =
        let same : two ≡ one = (bytes_eq-Decides two one).0 e in
        ap (λ text. bytes_eq text one) same ∙ ap (bytes_eq one) (sym same) ∙ h

-- one more file of another name leaves a name without a file
has_file-push : (files : List File) (name bytes other : List ℕ) → has_file files other ≡ false → bytes_eq other name ≡ false → has_file (files ++ (name, bytes) ∷ []) other ≡ false
has_file-push [] name bytes other none apart = rw apart refl
has_file-push (file ∷ files) name bytes other none apart = by (bytes_eq other file.0) refl (λ rest. has_file-push files name bytes other rest apart)
  where
    by : (b : Bool) → bytes_eq other file.0 ≡ b → (has_file files other ≡ false → has_file (files ++ (name, bytes) ∷ []) other ≡ false) → has_file ((file ∷ files) ++ (name, bytes) ∷ []) other ≡ false
    by true e more = let there : true ≡ false = rw e at none in absurd cc
    by false e more = rw e (more (rw e at none))

-- the names stay apart with one that is new
names-push : (files : List File) (name bytes : List ℕ) → have_names_of_their_own files ≡ true → has_file files name ≡ false → have_names_of_their_own (files ++ (name, bytes) ∷ []) ≡ true
names-push [] name bytes apart none = refl
names-push (file ∷ files) name bytes apart none = by (bytes_eq name file.0) refl (has_file files file.0) refl (λ apart none. names-push files name bytes apart none)
  where
    by : (b : Bool) → bytes_eq name file.0 ≡ b → (t : Bool) → has_file files file.0 ≡ t
        → (have_names_of_their_own files ≡ true → has_file files name ≡ false → have_names_of_their_own (files ++ (name, bytes) ∷ []) ≡ true)
        → have_names_of_their_own ((file ∷ files) ++ (name, bytes) ∷ []) ≡ true
    by true e t f more = let there : true ≡ false = rw e at none in absurd cc
    by false e true f more = let there : false ≡ true = rw f at apart in absurd cc
    by false e false f more = rw (has_file-push files name bytes file.0 f (other-text name file.0 e)) (more (rw f at apart) (rw e at none))

-- and the files stay good with one that is
good-push : (files : List File) (name bytes : List ℕ) → are_good files ≡ true → is_bad_file name bytes ≡ false → are_good (files ++ (name, bytes) ∷ []) ≡ true
good-push [] name bytes good fine = rw fine refl
good-push (file ∷ files) name bytes good fine = by (is_bad_file file.0 file.1) refl (λ rest. good-push files name bytes rest fine)
  where
    by : (b : Bool) → is_bad_file file.0 file.1 ≡ b → (are_good files ≡ true → are_good (files ++ (name, bytes) ∷ []) ≡ true) → are_good ((file ∷ files) ++ (name, bytes) ∷ []) ≡ true
    by true e more = let there : false ≡ true = rw e at good in absurd cc
    by false e more = rw e (more (rw e at good))

pub taken-push : (files : List File) (name bytes : List ℕ) → AreTaken files → is_bad_file name bytes ≡ false → has_file files name ≡ false → AreTaken (files ++ (name, bytes) ∷ [])
taken-push files name bytes taken fine none = (names-push files name bytes taken.0 none, good-push files name bytes taken.1 fine)

-- what holds both after an Ok and after an Err
pub either-way : {X E After Noted Before Same Goal : Type 0} (result : Result X E) → OnOk result After → OnOk result Noted → OnErr result Before → OnErr result Same
    → (After → Noted → Goal) → (Before → Same → Goal) → Goal
either-way (Ok x) after noted before same on_ok on_err = on_ok after noted
either-way (Err e) after noted before same on_ok on_err = on_err before same

-- a place counted from one more
index_from-suc : (at : ℕ) (name : List ℕ) (files : List File) → index_from (at + 1) name files ≡ option_map (λ place. suc place) (index_from at name files)
index_from-suc at name [] = refl
index_from-suc at name (file ∷ files) = by (bytes_eq name file.0) (index_from-suc (at + 1) name files)
  where
    by : (here : Bool) → index_from (at + 1 + 1) name files ≡ option_map (λ place. suc place) (index_from (at + 1) name files)
        → (if here then Some (at + 1) else index_from (at + 1 + 1) name files) ≡ option_map (λ place. suc place) (if here then Some at else index_from (at + 1) name files)
    by true rest = ap Some (omega arith)
    by false rest = rest

-- a file has the bytes that stand at its place
pub file_named-at : (name : List ℕ) (files : List File) → file_named files name ≡ option_map (bytes_at files) (index_from 0 name files)
file_named-at name [] = refl
file_named-at name (file ∷ files) = by (bytes_eq name file.0) (file_named-at name files)
  where
    behind : (place : Option ℕ) → option_map (bytes_at files) place ≡ option_map (bytes_at (file ∷ files)) (option_map (λ place. suc place) place)
    behind None = refl
    behind (Some place) = refl

    by : (here : Bool) → file_named files name ≡ option_map (bytes_at files) (index_from 0 name files)
        → (if here then Some file.1 else file_named files name) ≡ option_map (bytes_at (file ∷ files)) (if here then Some 0 else index_from 1 name files)
    by true rest = refl
    by false rest = rest ∙ behind (index_from 0 name files) ∙ ap (option_map (bytes_at (file ∷ files))) (sym (index_from-suc 0 name files))

-- a name has a file where it has a place
pub has_file-at : (name : List ℕ) (files : List File) → has_file files name ≡ is_some (index_from 0 name files)
has_file-at name files = ap is_some (file_named-at name files) ∙ some (index_from 0 name files)
  where
    some : (place : Option ℕ) → is_some (option_map (bytes_at files) place) ≡ is_some place
    some None = refl
    some (Some place) = refl

-- one more file of a new name: its place is behind all others, and theirs stay
pub index_from-push : (at : ℕ) (files : List File) (name bytes other : List ℕ) → has_file files name ≡ false
    → index_from at other (files ++ (name, bytes) ∷ []) ≡ (if bytes_eq name other then Some (at + length files) else index_from at other files)
index_from-push at [] name bytes other none = by (bytes_eq name other) refl
  where
    by : (b : Bool) → bytes_eq name other ≡ b → index_from at other ((name, bytes) ∷ []) ≡ (if b then Some (at + 0) else None)
    by true e = rw (← (bytes_eq-Decides name other).0 e, (bytes_eq-Decides name name).1 refl) (ap Some (omega arith))
    by false e = rw (other-text name other e) refl
index_from-push at (file ∷ files) name bytes other none = by (bytes_eq other file.0) refl (bytes_eq name file.0) refl (index_from-push (at + 1) files name bytes other)
  where
    on : at + 1 + length files ≡ at + length (file ∷ files)
    on = omega arith

    by : (here : Bool) → bytes_eq other file.0 ≡ here → (same : Bool) → bytes_eq name file.0 ≡ same
        → (has_file files name ≡ false → index_from (at + 1) other (files ++ (name, bytes) ∷ []) ≡ (if bytes_eq name other then Some (at + 1 + length files) else index_from (at + 1) other files))
        → index_from at other ((file ∷ files) ++ (name, bytes) ∷ []) ≡ (if bytes_eq name other then Some (at + length (file ∷ files)) else index_from at other (file ∷ files))
    by here e true f rest = let there : true ≡ false = rw f at none in absurd cc
    by true e false f rest = rw (e, (bytes_eq-Decides other file.0).0 e, f) refl
    by false e false f rest = rw e (rest (rw f at none) ∙ ap (λ place. if bytes_eq name other then Some place else index_from (at + 1) other files) on)

-- so with each name stands its place, as before
pub places-push : (old new : NameMap) (files : List File) (name bytes : List ℕ) → ArePlaces old files → has_file files name ≡ false → GivesNumber old name (length files) new
    → ArePlaces new (files ++ (name, bytes) ∷ [])
places-push old new files name bytes before none gives other =
    gives other ∙ ap (λ place. if bytes_eq name other then Some (length files) else place) (before other)
    ∙ ap (λ place. if bytes_eq name other then Some place else index_from 0 other files) here ∙ sym (index_from-push 0 files name bytes other none)
  where
    here : length files ≡ 0 + length files
    here = omega arith
