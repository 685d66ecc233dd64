-- What a session knows of where its profiles were read stays true whatever it is told.
use Rattle.std.proofs.Common.{◌≡◌, ℕ, zero, suc, ◌+◌, ◌<◌, ◌≤◌, Bool, true, false, not, cond, leb, ◌&&◌, List, [], ◌∷◌, ◌++◌, append_assoc, length, length-append, map, take, drop, Option, None, Some, Result, Ok, Err, inl, inr, refl, sym, ap, subst, ◌∙◌, arith, slice_get}
use Rattle.std.specs.Prelude.{IfOk, IfSome, fold}
use Rattle.std.proofs.lemmas.Bool.{leb-false, leb-true}
use Rattle.std.proofs.lemmas.List.{length-take-le, take-append-drop, take-append-le}
use Rattle.std.proofs.lemmas.List.Sums.{fold-append}
use Rattle.std.proofs.Math.Seq.{take-append-add}
use Rattle.std.proofs.lemmas.List.Folds.{find-append}
use Rattle.std.proofs.lemmas.Option.{slice_get_within}
use Rattle.std.proofs.lemmas.Slice.Eq.{bytes_eq-Decides}
use Rattle.std.specs.List.{list_any}
use Rattle.std.specs.Option.{option_or}
use Rattle.std.specs.Str.{bytes_eq}
use Rattle.aa_decide_ready.specs.Entries.{Loaded, is_in_force}
use Rattle.aa_decide_ready.specs.Named.{entry_named, is_named}
use Rattle.aa_history.specs.Machine.{Machine, MarksItsSets, accepted, all_sets, can_go_back, can_go_on, gone_back, gone_on, gone_to_mark, is_marked, with_mark}
use Rattle.aa_history.specs.MachineLaws.{BackKeepsSets, OnKeepsSets}
use Rattle.aa_history.specs.MarkLaws.{MarkKeepsAll}
use Rattle.aa_profile.specs.FileReading.{file_profiles_in}
use Rattle.aa_profile_data.specs.Profile.{are_distinct, is_named as is_profile_named}
use Rattle.aa_profile_data.specs.declared.profile.Mode.{Mode}
use Rattle.aa_profile_data.specs.declared.profile.Mode.TheVariants.{Complain as ComplainMode, Enforce as EnforceMode}
use Rattle.aa_profile_data.specs.declared.profile.Profile.{Profile}
use Rattle.aa_profile_parsing.specs.declared.profile_error.ProfileError.{ProfileError}
use Rattle.aa_profile_parsing.specs.declared.language.Language.{Language}
use Rattle.aa_profile_grammar.specs.declared.places.ProfilePlaces.{ProfilePlaces}
use Rattle.aa_set_manager.specs.Outcomes.{Outcome, answered, changed as changed_outcome, command_in, command_outcome, line_outcome, obeyed, refused, takes_memory}
use Rattle.aa_set_manager.specs.Manager.{after_change, back_at, is_mark_name, marking, redone, undone}
use Rattle.aa_set_answers.specs.Answers.{reply_lines, shown}
use Rattle.aa_set_answers.specs.List.{list_lines}
use Rattle.aa_set_manager.specs.Changes.{are_there, by_file, changed, disabled, forced, in_force, loaded, parts_of, put, put_all, some_are_absent, some_are_disabled, with_added, with_removed, with_replaced, without}
use Rattle.aa_set_commands.specs.Command.{Add, Ask, Back, Command as Order, Complain, Disable, Enforce, Listed, Make, Mark, PolicyChange, Redo, Remove, Replace, Show, Undo}
use Rattle.aa_set_commands.specs.Refusal.{plain}
use Rattle.aa_set_commands.specs.declared.refusal.Refusal.{Refusal}
use Rattle.aa_set_commands.specs.declared.refusal.RefusalKind.TheVariants.{Absent, BadRequest, Disabled, Exists, LineTooLong, Memory, NoMark, NothingToRedo, NothingToUndo}
use Rattle.aa_set_commands.specs.Limits.{longest_line}
use Rattle.aa_text_files.specs.Files.{File}
use Rattle.aatry_policy.specs.Origins.{origin_in}
use Rattle.aatry_folder.specs.declared.loading.Loading.TheVariants as loading
use Rattle.aatry_policy.specs.PlaceLaws.{AreReadAt, IsFoundAt, IsReadAt}
use Rattle.aatry_policy.specs.declared.origins.Origin.{Origin}
use Rattle.aatry_session_told.specs.Commands.{change_in, undoes_more}
use Rattle.aatry_session.specs.Laws.{IsInStep}
use Rattle.aatry_session.specs.Origins.{change_origins, last_origin, newer_origin, origin_among, origins_at, unplaced_origin}
use Rattle.aatry_session.specs.PlaceLaws.{AddLeavesKnowing, AddsKnowing, BeginsKnowing, ForgetsForAnyFiles, IsKnown, KnowsEach, KnowsTheLoaded, LeavesKnowing, StaysKnowing, SwitchesKnowing}
use Rattle.aatry_session_told.specs.Sayings.{Command, Help, History, NoQuestion, Quit, Reload, Saying, Status, Widen, Why, saying_in}
use Rattle.aatry_session.specs.Turns.{Kept, depth, line_obeyed, origins_behind, said_outcome, undoable}
use Rattle.aatry_session.proofs.NamedLemmas.{Before, Came, Own, came-put, has-named, named-is, named-kept, named-put, none-named, none-there}

-- what is known of files and of machines
pub record Laws : Type 0 where
  pub file : (language : Language) (files : List File) (name : List ℕ) (profiles : List Profile) (force_complain : Bool)
      → file_profiles_in language files name ≡ Ok profiles
      → AreReadAt language files (map (loaded force_complain) profiles) (origins_at language files name)
  pub named : (language : Language) (files : List File) (name : List ℕ) (entries : List Loaded) (origins : List Origin) (entry : Loaded)
      → AreReadAt language files entries origins → entry_named name entries ≡ Some entry → IsFoundAt language files origins name entry.profile
  pub distinct : (language : Language) (files : List File) (name : List ℕ)
      → IfOk (file_profiles_in language files name) (λ profiles. are_distinct profiles ≡ true)
  pub back : BackKeepsSets (List Loaded)
  pub on : OnKeepsSets (List Loaded)
  pub keep : MarkKeepsAll (List Loaded)

if-some : (P : Type 0) (places : Option ProfilePlaces) → P → IfSome places (λ _. P)
if-some P None p = tt
if-some P (Some places) p = p

-- what is known of a profile after a change
newer : (language : Language) (files : List File) (entries : List Loaded) (own : List Origin) (name : List ℕ) (profile : Profile) (before : Option Origin)
    → ((old : Loaded) → entry_named name entries ≡ Some old → IsKnown language files old.profile before)
    → Came language files entries own name profile → IsKnown language files profile (newer_origin name before own)
newer language files entries own name profile before known (Own origin found read) =
    subst (λ (o : Option Origin). IsKnown language files profile (elim o [ None ↦ before | Some origin ↦ Some origin ])) (sym found)
    (if-some (IsReadAt language files profile origin) origin.places read)
newer language files entries own name profile before known (Before old none found same) =
    subst (λ (o : Option Origin). IsKnown language files profile (elim o [ None ↦ before | Some origin ↦ Some origin ])) (sym none)
    (subst (λ p. IsKnown language files p before) same (known old found))

-- a profile that is switched was there before
switched : (language : Language) (files : List File) (entries : List Loaded) (name other : List ℕ) (old new entry : Loaded) → entry_named other entries ≡ Some old
    → new.profile ≡ old.profile → entry_named name (put new entries) ≡ Some entry → Came language files entries [] name entry.profile
switched language files entries name other old new entry there same is = by (bytes_eq new.profile.name name) refl (sym (named-put new entries name) ∙ is)
  where
    by : (own : Bool) → bytes_eq new.profile.name name ≡ own → cond own (Some new) (entry_named name entries) ≡ Some entry
        → Came language files entries [] name entry.profile
    by true e one =
        let first : new ≡ entry = cc in
        let named : other ≡ name =
        sym (named-is other entries old there) ∙ ap (λ (p : Profile). p.name) (sym same) ∙ (bytes_eq-Decides new.profile.name name).0 e in
        Before old refl (subst (λ n. entry_named n entries ≡ Some old) named there) (sym same ∙ ap (λ (o : Loaded). o.profile) first)
    by false e one = Before entry refl one refl

-- where the profile of a name comes from that a change leaves
module _ (laws : Laws) (language : Language) (files : List File) (force_complain : Bool) (entries set : List Loaded) (name : List ℕ) (entry : Loaded)
    (there : entry_named name set ≡ Some entry) where
  came-added : (file : List ℕ) (profiles : List Profile) → file_profiles_in language files file ≡ Ok profiles
      → with_added force_complain entries profiles ≡ Ok set → Came language files entries (origins_at language files file) name entry.profile
  came-added file profiles read is = by (are_there profiles entries) refl is
    where
      all : AreReadAt language files (map (loaded force_complain) profiles) (origins_at language files file)
      all = laws.file language files file profiles force_complain read

      found : (first : Option Loaded) → entry_named name entries ≡ first → are_there profiles entries ≡ false
          → option_or first (entry_named name (map (loaded force_complain) profiles)) ≡ Some entry
          → Came language files entries (origins_at language files file) name entry.profile
      found (Some old) e none one =
          let same : old ≡ entry = cc in
          Before old
          (none-named language files force_complain profiles (origins_at language files file) name all
          (none-there profiles entries name none (has-named name entries old e)))
          e (ap (λ (o : Loaded). o.profile) same)
      found None e none one =
          let (origin, first, own) = laws.named language files name (map (loaded force_complain) profiles) (origins_at language files file) entry all one in
          Own origin first own

      by : (exist : Bool) → are_there profiles entries ≡ exist
          → cond exist (Err (plain Exists)) (Ok (entries ++ map (loaded force_complain) profiles)) ≡ Ok set
          → Came language files entries (origins_at language files file) name entry.profile
      by true e one = absurd (cc)
      by false e one =
          let same : entries ++ map (loaded force_complain) profiles ≡ set = cc in
          found (entry_named name entries) refl e
          (sym (find-append (is_named name) entries (map (loaded force_complain) profiles)) ∙ ap (entry_named name) same ∙ there)

  came-replaced : (file : List ℕ) (profiles : List Profile) → file_profiles_in language files file ≡ Ok profiles
      → with_replaced force_complain entries profiles ≡ Ok set → Came language files entries (origins_at language files file) name entry.profile
  came-replaced file profiles read is = by (some_are_disabled profiles entries) is
    where
      by : (off : Bool) → cond off (Err (plain Disabled)) (Ok (put_all (forced force_complain) entries profiles)) ≡ Ok set
          → Came language files entries (origins_at language files file) name entry.profile
      by true one = absurd (cc)
      by false one =
          let same : put_all (forced force_complain) entries profiles ≡ set = cc in
          came-put language files force_complain (forced force_complain) profiles (origins_at language files file) entries name entry
          (laws.file language files file profiles force_complain read)
          (subst (λ r. IfOk r (λ profiles. are_distinct profiles ≡ true)) read (laws.distinct language files file))
          (ap (entry_named name) same ∙ there)

  came-removed : (profiles : List Profile) → with_removed entries profiles ≡ Ok set → Came language files entries [] name entry.profile
  came-removed profiles is = by (some_are_absent profiles entries) is
    where
      by : (missing : Bool) → cond missing (Err (plain Absent)) (Ok (without profiles entries)) ≡ Ok set → Came language files entries [] name entry.profile
      by true one = absurd (cc)
      by false one =
          let same : without profiles entries ≡ set = cc in
          Before entry refl
          (named-kept (λ n. not (list_any (is_profile_named n) profiles)) name entries entry (ap (entry_named name) same ∙ there)).0 refl

  came-in-mode : (mode : Mode) (other : List ℕ) (found : Option Loaded) → entry_named other entries ≡ found
      → ◌≡◌ {A = Result (List Loaded) Refusal}
      (elim found [ None ↦ Err (plain Absent) | Some old ↦ Ok (put (in_force (Some mode) old.profile) entries) ]) (Ok set)
      → Came language files entries [] name entry.profile
  came-in-mode mode other None e is = absurd (cc)
  came-in-mode mode other (Some old) e is =
      let same : put (in_force (Some mode) old.profile) entries ≡ set = cc in
      switched language files entries name other old (in_force (Some mode) old.profile) entry e refl (ap (entry_named name) same ∙ there)

  came-disabled : (other : List ℕ) (found : Option Loaded) → entry_named other entries ≡ found
      → ◌≡◌ {A = Result (List Loaded) Refusal}
      (elim found [
        | None ↦ Err (plain Absent)
        | Some old ↦ cond (is_in_force old.state) (Ok (put (disabled old.profile) entries)) (Err (plain Disabled))
      ]) (Ok set)
      → Came language files entries [] name entry.profile
  came-disabled other None e is = absurd (cc)
  came-disabled other (Some old) e is = by (is_in_force old.state) is
    where
      by : (on : Bool) → cond on (Ok (put (disabled old.profile) entries)) (Err (plain Disabled)) ≡ Ok set → Came language files entries [] name entry.profile
      by true one =
          let same : put (disabled old.profile) entries ≡ set = cc in
          switched language files entries name other old (disabled old.profile) entry e refl (ap (entry_named name) same ∙ there)
      by false one = absurd (cc)

  by-read : (own : List Origin) (change : List Profile → Result (List Loaded) Refusal) (read : Result (List Profile) ProfileError)
      → ((profiles : List Profile) → read ≡ Ok profiles → change profiles ≡ Ok set → Came language files entries own name entry.profile)
      → by_file change read ≡ Ok set → Came language files entries own name entry.profile
  by-read own change (Err error) each is = absurd (cc)
  by-read own change (Ok profiles) each is = each profiles refl is

  came : (change : PolicyChange) → changed files (record { language = language; force_complain = force_complain }) entries change ≡ Ok set
      → Came language files entries (change_origins language files change) name entry.profile
  came (Add file) is = by-read (origins_at language files file) (with_added force_complain entries) (file_profiles_in language files file) (came-added file) is
  came (Replace file) is = by-read (origins_at language files file) (with_replaced force_complain entries) (file_profiles_in language files file) (came-replaced file) is
  came (Remove file) is = by-read [] (with_removed entries) (file_profiles_in language files file) (λ profiles read. came-removed profiles) is
  came (Enforce other) is = came-in-mode EnforceMode other (entry_named other entries) refl is
  came (Complain other) is = came-in-mode ComplainMode other (entry_named other entries) refl is
  came (Disable other) is = came-disabled other (entry_named other entries) refl is

-- what stands at a place of a list with others behind it
get-left : {A : Type 0} (xs ys : List A) (k : ℕ) → k < length xs → slice_get (xs ++ ys) k ≡ slice_get xs k
get-left [] ys k within = absurd (omega arith)
get-left (x ∷ xs) ys zero within = refl
get-left (x ∷ xs) ys (suc k) within = get-left xs ys k (omega arith)

get-seam : {A : Type 0} (xs : List A) (y : A) (ys : List A) → slice_get (xs ++ y ∷ ys) (length xs) ≡ Some y
get-seam [] y ys = refl
get-seam (x ∷ xs) y ys = get-seam xs y ys

-- fewer of the first so many
take-fewer : {A : Type 0} (k n : ℕ) (xs : List A) → k ≤ n → n ≤ length xs → take k (take n xs) ≡ take k xs
take-fewer k n xs few within =
    let size : length (take n xs) ≡ n = length-take-le n xs within in
    sym (take-append-le k (take n xs) (drop n xs) (omega (arith, size, few))) ∙ ap (take k) (take-append-drop n xs)

-- an accepted change to a set of which each profile is known
accepted-knows : (language : Language) (files : List File) (machine : Machine (List Loaded)) (set : List Loaded) (origins : List (List Origin)) (own : List Origin)
    → length machine.earlier ≤ length origins → KnowsEach language files (all_sets machine) origins
    → ((name : List ℕ) (entry : Loaded) → entry_named name set ≡ Some entry
    → IsKnown language files entry.profile (newer_origin name (origin_among name (length machine.earlier) origins) own))
    → KnowsEach language files (all_sets (accepted machine set)) (take (length machine.earlier) origins ++ own ∷ [])
accepted-knows language files machine set origins own within knows new done of name entry at named = by (leb (suc done) (length front)) refl
  where
    front : List (List Loaded)
    front = machine.earlier ++ machine.now ∷ []

    kept : List (List Origin)
    kept = take (length machine.earlier) origins

    front-size : length front ≡ length machine.earlier + 1
    front-size = length-append machine.earlier (machine.now ∷ [])

    kept-size : length kept ≡ length machine.earlier
    kept-size = length-take-le (length machine.earlier) origins within

    here : done < length (front ++ set ∷ [])
    here = slice_get_within (front ++ set ∷ []) done of at

    size : length (front ++ set ∷ []) ≡ length front + 1
    size = length-append front (set ∷ [])

    earlier-set : done < length front → slice_get (all_sets machine) done ≡ Some of
    earlier-set less =
        ap (λ l. slice_get l done) (sym (append_assoc machine.earlier (machine.now ∷ []) machine.later))
        ∙ get-left front machine.later done less ∙ sym (get-left front (set ∷ []) done less) ∙ at

    earlier-origins : done ≤ length machine.earlier → take done (kept ++ own ∷ []) ≡ take done origins
    earlier-origins few =
        take-append-le done kept (own ∷ []) (omega (arith, kept-size, few)) ∙ take-fewer done (length machine.earlier) origins few within

    last-set : done ≡ length front → of ≡ set
    last-set same =
        let both : Some of ≡ Some set = sym at ∙ ap (slice_get (front ++ set ∷ [])) same ∙ get-seam front set [] in cc

    last-origins : done ≡ length front → origin_among name done (kept ++ own ∷ []) ≡ newer_origin name (origin_among name (length machine.earlier) origins) own
    last-origins same =
        let all : done ≡ length kept + 1 = omega (arith, same, front-size, kept-size) in
        ap (λ n. last_origin name (take n (kept ++ own ∷ []))) all
        ∙ ap (last_origin name) (take-append-add kept (own ∷ []) 1)
        ∙ fold-append (newer_origin name) None kept (own ∷ [])

    by : (earlier : Bool) → leb (suc done) (length front) ≡ earlier → IsKnown language files entry.profile (origin_among name done (kept ++ own ∷ []))
    by true e =
        let less : done < length front = leb-true (suc done) (length front) e in
        subst (λ l. IsKnown language files entry.profile (last_origin name l)) (sym (earlier-origins (omega (arith, less, front-size))))
        (knows done of name entry (earlier-set less) named)
    by false e =
        let most : length front < suc done = leb-false (suc done) (length front) e in
        let same : done ≡ length front = omega (arith, most, here, size) in
        subst (IsKnown language files entry.profile) (sym (last-origins same))
        (new name entry (subst (λ l. entry_named name l ≡ Some entry) (last-set same) named))

-- what is known after an outcome
abbrev Keeps : List File → Kept → Option PolicyChange → Outcome → Type 0
Keeps files kept change outcome =
    KnowsEach outcome.managed.settings.language files (all_sets outcome.managed.machine)
    (origins_behind kept.managed.settings.language files (depth kept.managed) change outcome.reply kept.origins)

abbrev IsKept : List File → Kept → Type 0
IsKept files kept = KnowsEach kept.managed.settings.language files (all_sets kept.managed.machine) kept.origins

either_keeps : (t : Bool) (files : List File) (kept : Kept) (change : Option PolicyChange) (a b : Outcome) → Keeps files kept change a
    → Keeps files kept change b → Keeps files kept change (cond t a b)
either_keeps true files kept change a b p q = p
either_keeps false files kept change a b p q = q

refusal_keeps : (files : List File) (kept : Kept) (change : Option PolicyChange) (refusal : Refusal) → IsKept files kept
    → Keeps files kept change (refused kept.managed refusal)
refusal_keeps files kept None refusal h = h
refusal_keeps files kept (Some change) refusal h = h

answered_keeps : (files : List File) (kept : Kept) (r : Result (List ℕ) Refusal) → IsKept files kept → Keeps files kept None (answered kept.managed r)
answered_keeps files kept (Ok lines) h = h
answered_keeps files kept (Err refusal) h = h

change_keeps : Laws → (files : List File) (kept : Kept) (change : PolicyChange) (size : ℕ) (r : Result (List Loaded) Refusal)
    → changed files kept.managed.settings kept.managed.machine.now change ≡ r → depth kept.managed ≤ length kept.origins
    → IsKept files kept → Keeps files kept (Some change) (changed_outcome kept.managed (after_change kept.managed size r))
change_keeps laws files kept change size (Err refusal) is within h = h
change_keeps laws files kept change size (Ok set) is within h =
    let machine = kept.managed.machine in
    let language = kept.managed.settings.language in
    accepted-knows language files machine set kept.origins (change_origins language files change) within h
    (λ name entry there.
    newer language files machine.now (change_origins language files change) name entry.profile (origin_among name (length machine.earlier) kept.origins)
    (λ old named. h (length machine.earlier) machine.now name old (get-seam machine.earlier machine.now machine.later) named)
    (came laws language files kept.managed.settings.force_complain machine.now set name entry there change is))

undone_keeps : Laws → (files : List File) (kept : Kept) (n : ℕ) → IsKept files kept
    → Keeps files kept None (changed_outcome kept.managed (undone n kept.managed))
undone_keeps laws files kept n h = by (can_go_back n kept.managed.machine) refl
  where
    by : (t : Bool) → can_go_back n kept.managed.machine ≡ t
        → Keeps files kept None (changed_outcome kept.managed (cond t (Ok (record kept.managed { machine = gone_back n kept.managed.machine })) (Err (plain NothingToUndo))))
    by true e = subst (λ sets. KnowsEach kept.managed.settings.language files sets kept.origins) (sym (laws.back n kept.managed.machine e)) h
    by false e = h

redone_keeps : Laws → (files : List File) (kept : Kept) (n : ℕ) → IsKept files kept
    → Keeps files kept None (changed_outcome kept.managed (redone n kept.managed))
redone_keeps laws files kept n h = by (can_go_on n kept.managed.machine) refl
  where
    by : (t : Bool) → can_go_on n kept.managed.machine ≡ t
        → Keeps files kept None (changed_outcome kept.managed (cond t (Ok (record kept.managed { machine = gone_on n kept.managed.machine })) (Err (plain NothingToRedo))))
    by true e = subst (λ sets. KnowsEach kept.managed.settings.language files sets kept.origins) (sym (laws.on n kept.managed.machine e)) h
    by false e = h

mark_keeps : (files : List File) (kept : Kept) (name : List ℕ) → IsKept files kept
    → Keeps files kept None (changed_outcome kept.managed (marking name kept.managed))
mark_keeps files kept name h = by (is_mark_name name)
  where
    by : (t : Bool) → Keeps files kept None (changed_outcome kept.managed (cond t (Ok (record kept.managed { machine = with_mark name kept.managed.machine })) (Err (plain BadRequest))))
    by true = h
    by false = h

back_keeps : Laws → (files : List File) (kept : Kept) (name : List ℕ) → MarksItsSets kept.managed.machine → IsKept files kept
    → Keeps files kept None (changed_outcome kept.managed (back_at name kept.managed))
back_keeps laws files kept name marked h = by (is_marked name kept.managed.machine)
  where
    by : (t : Bool) → Keeps files kept None (changed_outcome kept.managed (cond t (Ok (record kept.managed { machine = gone_to_mark name kept.managed.machine })) (Err (plain NoMark))))
    by true = subst (λ sets. KnowsEach kept.managed.settings.language files sets kept.origins) (sym (laws.keep name kept.managed.machine marked).0) h
    by false = h

flag_keeps : (files : List File) (kept : Kept) (flag : Bool) (command : Order) (change : Option PolicyChange) → IsKept files kept
    → Keeps files kept change (obeyed files kept.managed command)
    → Keeps files kept change (cond (flag && takes_memory kept.managed command) (refused kept.managed (plain Memory)) (obeyed files kept.managed command))
flag_keeps files kept flag command change h p =
    either_keeps (flag && takes_memory kept.managed command) files kept change (refused kept.managed (plain Memory)) (obeyed files kept.managed command)
    (refusal_keeps files kept change (plain Memory) h) p

-- as many changes are kept as are done
within : (kept : Kept) → IsInStep kept → depth kept.managed ≤ length kept.origins
within kept step = omega (arith, step.counted, step.known)

command_keeps : Laws → (files : List File) (kept : Kept) (flag : Bool) (command : Result (Option Order) Refusal) → IsInStep kept → IsKept files kept
    → Keeps files kept (change_in command) (command_outcome files kept.managed flag command)
command_keeps laws files kept flag (Err refusal) step h = h
command_keeps laws files kept flag (Ok None) step h = h
command_keeps laws files kept flag (Ok (Some (Make change))) step h =
    flag_keeps files kept flag (Make change) (Some change) h
    (change_keeps laws files kept change (parts_of files kept.managed.settings change) (changed files kept.managed.settings kept.managed.machine.now change) refl (within kept step) h)
command_keeps laws files kept flag (Ok (Some (Undo n))) step h = flag_keeps files kept flag (Undo n) None h (undone_keeps laws files kept n h)
command_keeps laws files kept flag (Ok (Some (Redo n))) step h = flag_keeps files kept flag (Redo n) None h (redone_keeps laws files kept n h)
command_keeps laws files kept flag (Ok (Some (Mark name))) step h = flag_keeps files kept flag (Mark name) None h (mark_keeps files kept name h)
command_keeps laws files kept flag (Ok (Some (Back name))) step h = flag_keeps files kept flag (Back name) None h (back_keeps laws files kept name step.marked h)
command_keeps laws files kept flag (Ok (Some (Ask question))) step h =
    flag_keeps files kept flag (Ask question) None h (answered_keeps files kept (reply_lines kept.managed.machine.now question) h)
command_keeps laws files kept flag (Ok (Some Listed)) step h =
    flag_keeps files kept flag Listed None h (answered_keeps files kept (Ok (list_lines kept.managed.machine.now)) h)
command_keeps laws files kept flag (Ok (Some (Show name))) step h =
    flag_keeps files kept flag (Show name) None h (answered_keeps files kept (shown kept.managed.machine.now name) h)

machine_keeps : Laws → (files : List File) (kept : Kept) (line : List ℕ) (flag : Bool) → IsInStep kept → IsKept files kept
    → Keeps files kept (change_in (command_in line)) (line_outcome files kept.managed line flag)
machine_keeps laws files kept line flag step h =
    either_keeps (leb (length line) longest_line) files kept (change_in (command_in line)) (command_outcome files kept.managed flag (command_in line))
    (refused kept.managed (plain LineTooLong)) (command_keeps laws files kept flag (command_in line) step h)
    (refusal_keeps files kept (change_in (command_in line)) (plain LineTooLong) h)

line_keeps : Laws → (files : List File) (kept : Kept) (line : List ℕ) (flag : Bool) → IsInStep kept → IsKept files kept
    → Keeps files kept (change_in (command_in line)) (line_obeyed files kept.loaded kept.managed line flag)
line_keeps laws files kept line flag step h =
    either_keeps (undoes_more (undoable kept.loaded kept.managed) line) files kept (change_in (command_in line)) (refused kept.managed (plain NothingToUndo))
    (line_outcome files kept.managed line flag) (refusal_keeps files kept (change_in (command_in line)) (plain NothingToUndo) h)
    (machine_keeps laws files kept line flag step h)

pub begins : BeginsKnowing
begins files language force_complain zero set name entry at named = let same : [] ≡ set = cc in by (subst (λ l. entry_named name l ≡ Some entry) (sym same) named)
  where
    by : entry_named name [] ≡ Some entry → IsKnown language files entry.profile (origin_among name 0 [])
    by none = absurd (cc)
begins files language force_complain (suc done) set name entry at named = absurd (cc)

pub stays : Laws → StaysKnowing
stays laws files base words kept line flag step h = by (saying_in line)
  where
    by : (saying : Saying) → IsKept files (said_outcome files base words kept line flag saying).kept
    by Command = line_keeps laws files kept line flag step h
    by Help = h
    by History = h
    by Widen = h
    by Quit = h
    by Reload = h
    by Status = h
    by (Why question) = h
    by (NoQuestion fault) = h

pub leaves : Laws → LeavesKnowing
leaves laws files before after line left step h = elim left [
  | inl same ↦ subst (IsKept files) (sym same) h
  | inr told ↦ subst (IsKept files) (sym told.1) (stays laws files [] [] before line told.0 step h)
]

pub adds : Laws → AddsKnowing
adds laws files base kept name flag step h = command_keeps laws files kept flag (Ok (Some (Make (Add name)))) step h

pub switches : Laws → SwitchesKnowing
switches laws files loading.ByFlags kept name step h = h
switches laws files loading.ForceComplain kept name step h = command_keeps laws files kept false (Ok (Some (Make (Complain name)))) step h
switches laws files loading.Disable kept name step h = command_keeps laws files kept false (Ok (Some (Make (Disable name)))) step h

pub leaves_adding : Laws → AddLeavesKnowing
leaves_adding laws files before after name left step h = elim left [
  | inl same ↦ subst (IsKept files) (sym same) h
  | inr told ↦ subst (IsKept files) (sym told.1) (adds laws files [] before name told.0 step h)
]

-- an origin, without its places
abbrev forgotten : Option Origin → Option Origin
forgotten None = None
forgotten (Some origin) = Some (unplaced_origin origin)

-- the origins of a name are the same where places are forgotten, but for these
origin-forgotten : (name : List ℕ) (own : List Origin) → origin_in name (map unplaced_origin own) ≡ forgotten (origin_in name own)
origin-forgotten name [] = refl
origin-forgotten name (origin ∷ own) = by (bytes_eq origin.profile name) (origin-forgotten name own)
  where
    by : (same : Bool) → origin_in name (map unplaced_origin own) ≡ forgotten (origin_in name own)
        → cond same (Some (unplaced_origin origin)) (origin_in name (map unplaced_origin own)) ≡ forgotten (cond same (Some origin) (origin_in name own))
    by true rest = refl
    by false rest = rest

newer-forgotten : (name : List ℕ) (before : Option Origin) (own : List Origin)
    → newer_origin name (forgotten before) (map unplaced_origin own) ≡ forgotten (newer_origin name before own)
newer-forgotten name before own =
    ap (λ (o : Option Origin). elim o [ None ↦ forgotten before | Some origin ↦ Some origin ]) (origin-forgotten name own) ∙ by (origin_in name own)
  where
    by : (found : Option Origin)
        → elim (forgotten found) [ None ↦ forgotten before | Some origin ↦ Some origin ] ≡ forgotten (elim found [ None ↦ before | Some origin ↦ Some origin ])
    by None = refl
    by (Some origin) = refl

last-forgotten : (name : List ℕ) (done : ℕ) (origins : List (List Origin)) (before : Option Origin)
    → fold (newer_origin name) (forgotten before) (take done (map (map unplaced_origin) origins)) ≡ forgotten (fold (newer_origin name) before (take done origins))
last-forgotten name zero origins before = refl
last-forgotten name (suc done) [] before = refl
last-forgotten name (suc done) (own ∷ origins) before =
    ap (λ (o : Option Origin). fold (newer_origin name) o (take done (map (map unplaced_origin) origins))) (newer-forgotten name before own)
    ∙ last-forgotten name done origins (newer_origin name before own)

known-forgotten : (language : Language) (files others : List File) (profile : Profile) (origin : Option Origin) → IsKnown language files profile origin → IsKnown language others profile (forgotten origin)
known-forgotten language files others profile None known = known
known-forgotten language files others profile (Some origin) known = tt

pub forgets : ForgetsForAnyFiles
forgets files others kept knows done set name entry at named =
    let language = kept.managed.settings.language in
    subst (IsKnown language others entry.profile) (sym (last-forgotten name done kept.origins None))
    (known-forgotten language files others entry.profile (origin_among name done kept.origins) (knows done set name entry at named))

pub loaded-is-known : KnowsTheLoaded
loaded-is-known files kept name entry knows named =
    let machine = kept.managed.machine in
    knows (length machine.earlier) machine.now name entry (get-seam machine.earlier machine.now machine.later) named
