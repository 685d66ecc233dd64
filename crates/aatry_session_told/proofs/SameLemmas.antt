-- That what isn't told to differ is the same.
use Rattle.std.proofs.Common.{◌≡◌, ◌∙◌, ℕ, Bool, true, false, cond, ◌||◌, List, [], ◌∷◌, ◌++◌, Option, None, Some, ap, flat_map, refl, subst, sym}
use Rattle.std.specs.Prelude.{is_some}
use Rattle.std.specs.Str.{bytes_eq}
use Rattle.std.proofs.lemmas.Bool.{true≢false}
use Rattle.std.proofs.lemmas.Slice.Eq.{bytes_eq-Decides}
use Rattle.aa_bytes.specs.Bytes.{slash}
use Rattle.aa_bytes.specs.Texts.{begins_with_byte}
use Rattle.aa_text_files.specs.Files.{File, bytes_of, file_named, has_file, is_folder_name}
use Rattle.aatry_session_told.specs.Differing.{difference_if, difference_of, gone_or_newer, is_apart}
use Rattle.aatry_session_told.specs.DifferingLaws.{WhatDoesNotDifferIsTheSame}
use Rattle.aatry_session_told.specs.declared.differing.Differs.TheVariants.{New}
use Rattle.aatry_session_told.specs.declared.differing.Side.TheVariants.{Disk, Read}

-- the parts of a list without items have none
empty_parts : {A : Type 0} (xs ys : List A) → xs ++ ys ≡ [] → (xs ≡ []) × (ys ≡ [])
empty_parts [] ys h = (refl, h)
empty_parts (x ∷ xs) ys h = absurd (cc)

-- a file that is neither gone nor newer has its bytes on disk
same_bytes : (name bytes : List ℕ) (found : Option (List ℕ)) → difference_if name (gone_or_newer bytes found) ≡ [] → found ≡ Some bytes
same_bytes name bytes None h = absurd (cc)
same_bytes name bytes (Some later) h = by (bytes_eq later bytes) refl h
  where
    by : (same : Bool) → bytes_eq later bytes ≡ same → difference_if name (gone_or_newer bytes (Some later)) ≡ [] → Some later ≡ Some bytes
    by true e h = ap Some ((bytes_eq-Decides later bytes).0 e)
    by false e h = let wrong = rw e at h in absurd (cc)

-- where neither holds, the first doesn't
first_false : (one other : Bool) → (one || other) ≡ false → one ≡ false
first_false true other h = absurd (true≢false h)
first_false false other h = refl

-- a file of a name that was read, and doesn't differ, has its bytes on disk
none_gone : (read disk : List File) (name bytes : List ℕ) → flat_map (difference_of Read disk) read ≡ [] → is_apart name ≡ false
    → file_named read name ≡ Some bytes → file_named disk name ≡ Some bytes
none_gone [] disk name bytes h single is = absurd (cc)
none_gone (file ∷ read) disk name bytes h single is =
    let parts = empty_parts (difference_of Read disk file) (flat_map (difference_of Read disk) read) h in
    by (bytes_eq name file.0) refl parts.0 (none_gone read disk name bytes parts.1 single) is
  where
    by : (own : Bool) → bytes_eq name file.0 ≡ own → difference_of Read disk file ≡ []
        → (file_named read name ≡ Some bytes → file_named disk name ≡ Some bytes)
        → cond own (Some file.1) (file_named read name) ≡ Some bytes → file_named disk name ≡ Some bytes
    by true e same rest one =
        let named : name ≡ file.0 = (bytes_eq-Decides name file.0).0 e in
        let plain : is_apart file.0 ≡ false = subst (λ n. is_apart n ≡ false) named single in
        let single_file : is_folder_name file.0 ≡ false = first_false (is_folder_name file.0) (begins_with_byte slash file.0) plain in
        let own : file.1 ≡ bytes = cc in
        let there : file_named disk file.0 ≡ Some file.1 =
        same_bytes file.0 file.1 (file_named disk file.0)
        (subst (λ folder. difference_if file.0 (gone_or_newer file.1 (cond folder None (file_named disk file.0))) ≡ []) single_file
        (subst (λ apart. difference_if file.0 (cond apart None (gone_or_newer file.1 (bytes_of disk file.0))) ≡ []) plain same)) in
        subst (λ n. file_named disk n ≡ Some bytes) (sym named) (there ∙ ap Some own)
    by false e same rest one = rest one

-- a file of a name on disk, which isn't new, was read
none_new : (read disk : List File) (name bytes : List ℕ) → flat_map (difference_of Disk read) disk ≡ [] → is_apart name ≡ false
    → file_named disk name ≡ Some bytes → has_file read name ≡ true
none_new read [] name bytes h single is = absurd (cc)
none_new read (file ∷ disk) name bytes h single is =
    let parts = empty_parts (difference_of Disk read file) (flat_map (difference_of Disk read) disk) h in
    by (bytes_eq name file.0) refl parts.0 (none_new read disk name bytes parts.1 single) is
  where
    either : (there : Bool) → difference_if file.0 (cond (false || there) None (Some New)) ≡ [] → there ≡ true
    either true h = refl
    either false h = absurd (cc)

    by : (own : Bool) → bytes_eq name file.0 ≡ own → difference_of Disk read file ≡ []
        → (file_named disk name ≡ Some bytes → has_file read name ≡ true)
        → cond own (Some file.1) (file_named disk name) ≡ Some bytes → has_file read name ≡ true
    by true e same rest one =
        let named : name ≡ file.0 = (bytes_eq-Decides name file.0).0 e in
        let plain : is_apart file.0 ≡ false = subst (λ n. is_apart n ≡ false) named single in
        subst (λ n. has_file read n ≡ true) (sym named)
        (either (has_file read file.0) (subst (λ apart. difference_if file.0 (cond (apart || has_file read file.0) None (Some New)) ≡ []) plain same))
    by false e same rest one = rest one

pub same : WhatDoesNotDifferIsTheSame
same read disk name h single =
    let parts = empty_parts (flat_map (difference_of Read disk) read) (flat_map (difference_of Disk read) disk) h in
    by parts.0 parts.1 (file_named read name) refl (file_named disk name) refl
  where
    by : flat_map (difference_of Read disk) read ≡ [] → flat_map (difference_of Disk read) disk ≡ []
        → (one : Option (List ℕ)) → file_named read name ≡ one → (other : Option (List ℕ)) → file_named disk name ≡ other
        → file_named disk name ≡ file_named read name
    by gone new (Some bytes) is other at = none_gone read disk name bytes gone single is ∙ sym is
    by gone new None is None at = at ∙ sym is
    by gone new None is (Some bytes) at =
        absurd (true≢false (sym (none_new read disk name bytes new single at) ∙ ap is_some is))
