-- Names: good ones, and those that can't come behind others.
use Rattle.std.proofs.Common.{◌≡◌, ℕ, Bool, true, false, List, [], ◌∷◌, ◌++◌, refl, length}
use Rattle.std.specs.Prelude.{◌==◌, ◌||◌, ◌&&◌}
use Rattle.std.specs.List.{IsDistinct}
use Rattle.std.specs.Str.{bytes_eq}
use Rattle.std.specs.Cmp.Lexicographic.{nat_list_eq_equiv}
use Rattle.std.proofs.lemmas.List.Elements.{All-nil, All-push}
use Rattle.std.proofs.lemmas.Map.Keys.{IsDistinct-push}
use Rattle.aa_text_files.specs.Files.{File, has_control_byte, has_file, is_folder_name}
use Rattle.aa_start.specs.Gathering.{names_of}
use Rattle.aa_start.specs.Names.{AreGoodNames, is_among, is_bad_name, is_refused_behind}

-- A name is bad by its bytes alone: no bytes of its file make it so.
pub is_bad_name-parts : (name : List ℕ) → is_bad_name name ≡ (length name == 0 || has_control_byte name)
is_bad_name-parts name = by (length name == 0) (has_control_byte name) (is_folder_name name)
  where
    by : (e c f : Bool) → (e || c || (f && false)) ≡ (e || c)
    by true c f = refl
    by false true f = refl
    by false false true = refl
    by false false false = refl

-- a file is there where its name is among those of the files
pub has_file-names : (files : List File) (name : List ℕ) → has_file files name ≡ is_among (names_of files) name
has_file-names [] name = refl
has_file-names (file ∷ files) name = by (bytes_eq name file.0) refl (has_file-names files name)
  where
    by : (b : Bool) → bytes_eq name file.0 ≡ b → has_file files name ≡ is_among (names_of files) name → has_file (file ∷ files) name ≡ is_among (names_of (file ∷ files)) name
    by true e more = rw e refl
    by false e more = rw e more

-- what isn't refused isn't bad, and isn't one of those before it
pub not_refused : (before : List (List ℕ)) (name : List ℕ) → is_refused_behind before name ≡ false → (is_bad_name name ≡ false) × (is_among before name ≡ false)
not_refused before name h = by (is_bad_name name) (is_among before name) h
  where
    by : (b a : Bool) → (b || a) ≡ false → (b ≡ false) × (a ≡ false)
    by true a h = cc
    by false a h = (refl, h)

pub good-none : AreGoodNames []
unfolding IsDistinct
good-none = record { good = All-nil (λ name. is_bad_name name ≡ false); different = tt }

-- good names with one more behind them
pub good-push : (before : List (List ℕ)) (name : List ℕ) → AreGoodNames before → is_refused_behind before name ≡ false → AreGoodNames (before ++ name ∷ [])
good-push before name good fits =
    let parts = not_refused before name fits in
    record {
      good = All-push (λ name. is_bad_name name ≡ false) before name good.good parts.0;
      different = IsDistinct-push nat_list_eq_equiv before name good.different parts.1;
    }
