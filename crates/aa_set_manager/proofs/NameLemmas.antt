-- Names that are apart stay apart.
use Rattle.std.proofs.Common.{◌≡◌, ℕ, Bool, true, false, not, ◌||◌, cond, List, [], ◌∷◌, ◌++◌, map, Option, None, Some, Result, Ok, Err, IfOk, refl, sym, ap, ◌∙◌, append_assoc, append-nil, arith}
use Rattle.std.specs.Prelude.{is_none}
use Rattle.std.specs.Option.{is_some, option_map}
use Rattle.std.specs.List.{list_any}
use Rattle.std.specs.Str.{bytes_eq}
use Rattle.std.proofs.lemmas.Bool.{and_from, and_parts, not-true, or_from, or_parts}
use Rattle.std.proofs.lemmas.Slice.Eq.{bytes_eq-Decides}
use Rattle.std.proofs.lemmas.Bool.Decides.{same_from_decides, nat_tests}
use Rattle.std.proofs.lemmas.List.Folds.{list_any-append}
use Rattle.aa_decide_ready.specs.Entries.{Loaded}
use Rattle.aa_decide_ready.specs.Named.{entry_named, has_name, have_distinct_names, is_named, profiles_of}
use Rattle.aa_profile_data.specs.Profile.{are_distinct, is_named as is_profile_named}
use Rattle.aa_profile_data.specs.declared.profile.Mode.{Mode}
use Rattle.aa_profile_data.specs.declared.profile.Profile.{Profile}
use Rattle.aa_profile_data.specs.declared.profile.Mode.TheVariants.{Complain as ComplainMode, Enforce as EnforceMode}
use Rattle.aa_text_files.specs.Files.{File}
use Rattle.aa_decide_ready.specs.Entries.{is_in_force}
use Rattle.aa_profile_parsing.specs.declared.language.Language.{Language}
use Rattle.aa_profile.specs.FileReading.{file_profiles_in}
use Rattle.aa_profile_parsing.specs.declared.profile_error.ProfileError.{ProfileError}
use Rattle.aa_set_commands.specs.Command.{Add, Replace, Remove, Enforce, Complain, Disable}
use Rattle.aa_set_commands.specs.Refusal.{plain}
use Rattle.aa_set_commands.specs.declared.refusal.Refusal.{Refusal}
use Rattle.aa_set_commands.specs.declared.refusal.RefusalKind.TheVariants.{Absent, Disabled, Exists}
use Rattle.aa_set_manager.specs.ChangeLaws.{ChangesKeepNamesApart}
use Rattle.aa_set_manager.specs.Changes.{are_there, by_file, disabled, forced, in_force, loaded, put, put_all, some_are_absent, some_are_disabled, with_added, with_disabled, with_mode, with_removed, with_replaced, without}

pub bytes_eq-comm : (a b : List ℕ) → bytes_eq a b ≡ bytes_eq b a
bytes_eq-comm a b =
    let one = bytes_eq-Decides a b in
    let other = bytes_eq-Decides b a in
    same_from_decides (bytes_eq a b) (bytes_eq b a) one (λ h. sym (other.0 h), λ h. other.1 (sym h))

-- a name is there where an entry is found by it
pub has-found : (name : List ℕ) (entries : List Loaded) → has_name name entries ≡ not (is_none (entry_named name entries))
has-found name [] = refl
has-found name (entry ∷ entries) = by (is_named name entry) (has-found name entries)
  where
    by : (here : Bool) → has_name name entries ≡ not (is_none (entry_named name entries))
        → (here || has_name name entries) ≡ not (is_none (cond here (Some entry) (entry_named name entries)))
    by true rest = refl
    by false rest = rest

-- whether there is something is told of what it maps to, too
pub some-map : {A B : Type 0} (f : A → B) (found : Option A) → is_some found ≡ not (is_none (option_map f found))
some-map f None = refl
some-map f (Some x) = refl

-- some entry has a name where its profile has it
pub has-profile : (name : List ℕ) (entries : List Loaded) → has_name name entries ≡ list_any (is_profile_named name) (profiles_of entries)
has-profile name [] = refl
has-profile name (entry ∷ entries) = ap (λ more. is_named name entry || more) (has-profile name entries)

-- an entry whose name isn't there can go behind distinct ones
distinct_with_last : (entries : List Loaded) (entry : Loaded) → have_distinct_names entries ≡ true → has_name entry.profile.name entries ≡ false → have_distinct_names (entries ++ entry ∷ []) ≡ true
distinct_with_last [] entry h n = refl
distinct_with_last (e ∷ es) entry h n =
    let apart = bytes_eq-comm e.profile.name entry.profile.name in
    let joined = list_any-append (is_named e.profile.name) es (entry ∷ []) in
    let rest = distinct_with_last es entry in
    let before = has-profile e.profile.name es in
    let after = has-profile e.profile.name (es ++ entry ∷ []) in
    grind (arith, nat_tests, apart, joined, rest, before, after)

-- names that are apart from those that are there and from one more are apart from all of these
pub there-more : (set : Option Mode) (profiles : List Profile) (entries : List Loaded) (profile : Profile) → are_there profiles entries ≡ false → list_any (is_profile_named profile.name) profiles ≡ false
    → are_there profiles (entries ++ in_force set profile ∷ []) ≡ false
there-more set [] entries profile h n = refl
there-more set (other ∷ profiles) entries profile h n =
    let apart = bytes_eq-comm profile.name other.name in
    let joined = list_any-append (is_named other.name) entries (in_force set profile ∷ []) in
    let first = or_parts (has_name other.name entries) (are_there profiles entries) h in
    let second = or_parts (is_profile_named profile.name other) (list_any (is_profile_named profile.name) profiles) n in
    or_from (has_name other.name (entries ++ in_force set profile ∷ [])) (are_there profiles (entries ++ in_force set profile ∷ []))
    (joined ∙ or_from (has_name other.name entries) (bytes_eq profile.name other.name || false) first.0 (or_from (bytes_eq profile.name other.name) false (apart ∙ second.0) refl))
    (there-more set profiles entries profile first.1 second.1)

-- profiles whose names are their own can go behind entries of distinct names
pub distinct_with_all : (set : Option Mode) (entries : List Loaded) (profiles : List Profile) → have_distinct_names entries ≡ true → are_there profiles entries ≡ false → are_distinct profiles ≡ true
    → have_distinct_names (entries ++ map (in_force set) profiles) ≡ true
distinct_with_all set entries [] h n d = ap have_distinct_names (append-nil entries) ∙ h
distinct_with_all set entries (profile ∷ profiles) h n d =
    let new = or_parts (has_name profile.name entries) (are_there profiles entries) n in
    let own = and_parts (not (list_any (is_profile_named profile.name) profiles)) (are_distinct profiles) d in
    let alone : list_any (is_profile_named profile.name) profiles ≡ false = not-true (list_any (is_profile_named profile.name) profiles) own.0 in
    ap have_distinct_names (sym (append_assoc entries (in_force set profile ∷ []) (map (in_force set) profiles)))
    ∙ distinct_with_all set (entries ++ in_force set profile ∷ []) profiles (distinct_with_last entries (in_force set profile) h new.0) (there-more set profiles entries profile new.1 alone) own.1

-- a name that isn't there isn't after an entry of another name was put there
put-absent : (name : List ℕ) (entry : Loaded) (entries : List Loaded) → is_named name entry ≡ false → has_name name entries ≡ false → has_name name (put entry entries) ≡ false
put-absent name entry [] o h = or_from (is_named name entry) false o refl
put-absent name entry (e ∷ es) o h = by (is_named entry.profile.name e) (put-absent name entry es o parts.1)
  where
    parts : (is_named name e ≡ false) × (has_name name es ≡ false)
    parts = or_parts (is_named name e) (has_name name es) h

    by : (here : Bool) → has_name name (put entry es) ≡ false → has_name name (cond here (entry ∷ es) (e ∷ put entry es)) ≡ false
    by true rest = or_from (is_named name entry) (has_name name es) o parts.1
    by false rest = or_from (is_named name e) (has_name name (put entry es)) parts.0 rest

-- distinct names stay distinct where an entry is put in the place of that of its name
pub put-distinct : (entry : Loaded) (entries : List Loaded) → have_distinct_names entries ≡ true → have_distinct_names (put entry entries) ≡ true
put-distinct entry [] h = refl
put-distinct entry (e ∷ es) h = by (is_named entry.profile.name e) refl (put-distinct entry es parts.1)
  where
    parts : (not (list_any (is_profile_named e.profile.name) (profiles_of es)) ≡ true) × (have_distinct_names es ≡ true)
    parts = and_parts (not (list_any (is_profile_named e.profile.name) (profiles_of es))) (have_distinct_names es) h

    absent : has_name e.profile.name es ≡ false
    absent = has-profile e.profile.name es ∙ not-true (list_any (is_profile_named e.profile.name) (profiles_of es)) parts.0

    front : (first : Loaded) (rest : List Loaded) → has_name first.profile.name rest ≡ false → have_distinct_names rest ≡ true → have_distinct_names (first ∷ rest) ≡ true
    front first rest n d = and_from (not (list_any (is_profile_named first.profile.name) (profiles_of rest))) (have_distinct_names rest) (ap not (sym (has-profile first.profile.name rest) ∙ n)) d

    by : (here : Bool) → is_named entry.profile.name e ≡ here → have_distinct_names (put entry es) ≡ true → have_distinct_names (cond here (entry ∷ es) (e ∷ put entry es)) ≡ true
    by true is rest = front entry es (ap (λ name. has_name name es) (sym ((bytes_eq-Decides e.profile.name entry.profile.name).0 is)) ∙ absent) parts.1
    by false is rest = front e (put entry es) (put-absent e.profile.name entry es (bytes_eq-comm entry.profile.name e.profile.name ∙ is) absent) rest

-- and where many are, one after another
pub put_all-distinct : (set : Option Mode) (profiles : List Profile) (entries : List Loaded) → have_distinct_names entries ≡ true
    → have_distinct_names (put_all set entries profiles) ≡ true
put_all-distinct set [] entries h = h
put_all-distinct set (profile ∷ profiles) entries h = put_all-distinct set profiles (put (in_force set profile) entries) (put-distinct (in_force set profile) entries h)

-- a name that isn't there isn't where some are taken out
without-absent : (name : List ℕ) (profiles : List Profile) (entries : List Loaded) → has_name name entries ≡ false → has_name name (without profiles entries) ≡ false
without-absent name profiles [] h = refl
without-absent name profiles (e ∷ es) h = by (not (list_any (is_profile_named e.profile.name) profiles)) (without-absent name profiles es parts.1)
  where
    parts : (is_named name e ≡ false) × (has_name name es ≡ false)
    parts = or_parts (is_named name e) (has_name name es) h

    by : (kept : Bool) → has_name name (without profiles es) ≡ false → has_name name (cond kept (e ∷ without profiles es) (without profiles es)) ≡ false
    by true rest = or_from (is_named name e) (has_name name (without profiles es)) parts.0 rest
    by false rest = rest

-- distinct names stay distinct where some are taken out
pub without-distinct : (profiles : List Profile) (entries : List Loaded) → have_distinct_names entries ≡ true → have_distinct_names (without profiles entries) ≡ true
without-distinct profiles [] h = refl
without-distinct profiles (e ∷ es) h = by (not (list_any (is_profile_named e.profile.name) profiles)) (without-distinct profiles es parts.1)
  where
    parts : (not (list_any (is_profile_named e.profile.name) (profiles_of es)) ≡ true) × (have_distinct_names es ≡ true)
    parts = and_parts (not (list_any (is_profile_named e.profile.name) (profiles_of es))) (have_distinct_names es) h

    absent : has_name e.profile.name es ≡ false
    absent = has-profile e.profile.name es ∙ not-true (list_any (is_profile_named e.profile.name) (profiles_of es)) parts.0

    by : (kept : Bool) → have_distinct_names (without profiles es) ≡ true → have_distinct_names (cond kept (e ∷ without profiles es) (without profiles es)) ≡ true
    by true rest = and_from (not (list_any (is_profile_named e.profile.name) (profiles_of (without profiles es)))) (have_distinct_names (without profiles es))
        (ap not (sym (has-profile e.profile.name (without profiles es)) ∙ without-absent e.profile.name profiles es absent)) rest
    by false rest = rest

-- a set after a change has distinct names, if it wasn't refused
abbrev StaysDistinct : Result (List Loaded) Refusal → Type 0
StaysDistinct result = IfOk result (λ set. have_distinct_names set ≡ true)

refused_or : (test : Bool) (refusal : Refusal) (set : List Loaded) → (test ≡ false → have_distinct_names set ≡ true)
    → (t : Bool) → test ≡ t → StaysDistinct (cond t (Err refusal) (Ok set))
refused_or test refusal set distinct true is = tt
refused_or test refusal set distinct false is = distinct is

by_file-distinct : (change : List Profile → Result (List Loaded) Refusal) (read : Result (List Profile) ProfileError)
    → IfOk read (λ profiles. are_distinct profiles ≡ true) → ((profiles : List Profile) → are_distinct profiles ≡ true → StaysDistinct (change profiles))
    → StaysDistinct (by_file change read)
by_file-distinct change (Err error) named each = tt
by_file-distinct change (Ok profiles) named each = each profiles named

with_mode-distinct : (mode : Mode) (entries : List Loaded) (name : List ℕ) → have_distinct_names entries ≡ true → StaysDistinct (with_mode mode entries name)
with_mode-distinct mode entries name h = by (entry_named name entries)
  where
    by : (found : Option Loaded) → StaysDistinct (elim found [ None ↦ Err (plain Absent) | Some entry ↦ Ok (put (in_force (Some mode) entry.profile) entries) ])
    by None = tt
    by (Some entry) = put-distinct (in_force (Some mode) entry.profile) entries h

with_disabled-distinct : (entries : List Loaded) (name : List ℕ) → have_distinct_names entries ≡ true → StaysDistinct (with_disabled entries name)
with_disabled-distinct entries name h = by (entry_named name entries)
  where
    by_state : (entry : Loaded) (test : Bool) → StaysDistinct (cond test (Ok (put (disabled entry.profile) entries)) (Err (plain Disabled)))
    by_state entry true = put-distinct (disabled entry.profile) entries h
    by_state entry false = tt

    by : (found : Option Loaded)
        → StaysDistinct (elim found [ None ↦ Err (plain Absent) | Some entry ↦ cond (is_in_force entry.state) (Ok (put (disabled entry.profile) entries)) (Err (plain Disabled)) ])
    by None = tt
    by (Some entry) = by_state entry (is_in_force entry.state)

-- no change gives two entries one name, as no file gives two profiles one
pub changes-keep : ((language : Language) (files : List File) (name : List ℕ) → IfOk (file_profiles_in language files name) (λ profiles. are_distinct profiles ≡ true)) → ChangesKeepNamesApart
changes-keep named files settings entries (Add file) h =
    by_file-distinct (with_added settings.force_complain entries) (file_profiles_in settings.language files file) (named settings.language files file)
    (λ profiles own. refused_or (are_there profiles entries) (plain Exists) (entries ++ map (loaded settings.force_complain) profiles)
    (λ apart. distinct_with_all (forced settings.force_complain) entries profiles h apart own) (are_there profiles entries) refl)
changes-keep named files settings entries (Replace file) h =
    by_file-distinct (with_replaced settings.force_complain entries) (file_profiles_in settings.language files file) (named settings.language files file)
    (λ profiles own. refused_or (some_are_disabled profiles entries) (plain Disabled) (put_all (forced settings.force_complain) entries profiles)
    (λ none. put_all-distinct (forced settings.force_complain) profiles entries h) (some_are_disabled profiles entries) refl)
changes-keep named files settings entries (Remove file) h =
    by_file-distinct (with_removed entries) (file_profiles_in settings.language files file) (named settings.language files file)
    (λ profiles own. refused_or (some_are_absent profiles entries) (plain Absent) (without profiles entries)
    (λ none. without-distinct profiles entries h) (some_are_absent profiles entries) refl)
changes-keep named files settings entries (Enforce name) h = with_mode-distinct EnforceMode entries name h
changes-keep named files settings entries (Complain name) h = with_mode-distinct ComplainMode entries name h
changes-keep named files settings entries (Disable name) h = with_disabled-distinct entries name h

-- an entry whose name isn't there comes behind all
pub put_absent-end : (entry : Loaded) (entries : List Loaded) → has_name entry.profile.name entries ≡ false → put entry entries ≡ entries ++ entry ∷ []
put_absent-end entry [] h = refl
put_absent-end entry (other ∷ entries) h =
    let parts = or_parts (is_named entry.profile.name other) (has_name entry.profile.name entries) h in
    rw (parts.0) (ap (λ entries. other ∷ entries) (put_absent-end entry entries parts.1))
