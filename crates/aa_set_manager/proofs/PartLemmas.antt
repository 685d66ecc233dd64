-- The parts that changes are made of, and the entries after their exchange.
use Rattle.std.proofs.Common.{◌≡◌, ℕ, suc, ◌+◌, ◌<◌, ◌≤◌, Bool, true, false, not, ◌||◌, cond, List, [], ◌∷◌, ◌++◌, length, map, Option, None, Some, refl, sym, ap, subst, ◌∙◌, append-nil, append_assoc, arith}
use Rattle.std.specs.Prelude.{⊤, is_none, if◌then◌else◌, Ok, Err}
use Rattle.std.specs.List.{All, list_any}
use Rattle.std.specs.Option.{is_some, option_map}
use Rattle.std.specs.Str.{bytes_eq}
use Rattle.std.proofs.lemmas.Bool.{and_from, and_parts, not-true, or_parts}
use Rattle.std.proofs.lemmas.Bool.Decides.{nat_tests}
use Rattle.std.proofs.lemmas.List.{length-map, length_push}
use Rattle.std.proofs.lemmas.List.Elements.{All-cons, All-nil, All-same}
use Rattle.std.proofs.lemmas.Slice.Eq.{bytes_eq-Decides}
use Rattle.aa_decide_ready.specs.Named.{entry_named, has_name, have_distinct_names, is_named, profiles_of}
use Rattle.aa_decide_ready.specs.Entries.{Loaded, can_be_in, fits, is_in_force}
use Rattle.aa_decide_ready.specs.Slots.{filled}
use Rattle.aa_decide_ready.specs.declared.entry.State.{State}
use Rattle.aa_decide_ready.specs.declared.entry.State.TheVariants.{Disabled as DisabledState, Modes}
use Rattle.aa_profile_data.specs.declared.profile.Child.{Child}
use Rattle.aa_profile_data.specs.Profile.{are_distinct, is_named as is_profile_named}
use Rattle.aa_profile_data.specs.declared.profile.Mode.{Mode}
use Rattle.aa_profile_data.specs.declared.profile.Profile.{Profile}
use Rattle.aa_set_manager.specs.Changes.{are_there, disabled, forced, in_force, loaded, mode_of, modes_of, put, put_all, some_are_absent, some_are_disabled, with_added, with_disabled, with_mode, without}
use Rattle.aa_set_commands.specs.Refusal.{plain}
use Rattle.aa_set_commands.specs.declared.refusal.RefusalKind.TheVariants.{Absent, Disabled, Exists}
use Rattle.aa_set_manager.specs.code.Places.{behind, emptying, filling, is_disabled_at, next_behind, place_for, places}
use Rattle.aa_set_manager.proofs.NameLemmas.{bytes_eq-comm, has-profile, put_absent-end, there-more, without-distinct}
use Rattle.aa_decide_ready.proofs.FindLemmas.{found, found-is}
use Rattle.aa_set_manager.proofs.PlaceLemmas.{Finds, content-behind, disabled-found, filled-put, finds, found-kept, length-with, none-found, some-found, stands-at, with-end}
use Rattle.aa_decide_ready.specs.SlotNames.{holds, slot_named, slots_named}
use Rattle.aa_set_parts.specs.Parts.{after, put_in}
use Rattle.aa_set_parts.specs.Slots.{content_at, trimmed, with_content}
use Rattle.aa_set_parts.specs.SlotLaws.{filled-onto, filled-trimmed, with-settled}
use Rattle.aa_set_parts.specs.declared.parts.Content.TheVariants.{InState, Whole}
use Rattle.aa_set_parts.specs.declared.parts.Part.{Part}

-- where the names of profiles are found
abbrev pub all_found : List Profile → List (Option Loaded) → List (Option ℕ)
all_found profiles slots = map (λ profile. found profile.name slots) profiles

pub all_found-is : (profiles : List Profile) (slots : List (Option Loaded)) → slots_named profiles slots ≡ all_found profiles slots
all_found-is [] slots = refl
all_found-is (profile ∷ profiles) slots = (λ i. found-is profile.name slots i ∷ all_found-is profiles slots i)

-- whether some were found, and whether some are there
pub some-there : (profiles : List Profile) (slots : List (Option Loaded)) → list_any is_some (all_found profiles slots) ≡ are_there profiles (filled slots)
some-there [] slots = refl
some-there (profile ∷ profiles) slots = (λ i. some-found profile.name slots i || some-there profiles slots i)

pub some-absent : (profiles : List Profile) (slots : List (Option Loaded)) → list_any is_none (all_found profiles slots) ≡ some_are_absent profiles (filled slots)
some-absent [] slots = refl
some-absent (profile ∷ profiles) slots = (λ i. none-found profile.name slots i || some-absent profiles slots i)

pub some-disabled : (profiles : List Profile) (slots : List (Option Loaded)) → list_any (is_disabled_at slots) (all_found profiles slots) ≡ some_are_disabled profiles (filled slots)
some-disabled [] slots = refl
some-disabled (profile ∷ profiles) slots = (λ i. disabled-found profile.name slots i || some-disabled profiles slots i)

-- names apart from that of a slot's content are found where they were when the slot holds something else
all-kept : (name : List ℕ) (k : ℕ) (content : Option Loaded) (slots : List (Option Loaded)) (profiles : List Profile)
    → ((other : List ℕ) → bytes_eq other name ≡ false → (holds other content ≡ false) × (holds other (content_at k slots) ≡ false))
    → list_any (is_profile_named name) profiles ≡ false
    → all_found profiles (with_content k content slots) ≡ all_found profiles slots
all-kept name k content slots [] apart h = refl
all-kept name k content slots (profile ∷ profiles) apart h =
    let parts = or_parts (is_profile_named name profile) (list_any (is_profile_named name) profiles) h in
    let other = apart profile.name parts.0 in
    (λ i. found-kept profile.name k content slots other.0 other.1 i ∷ all-kept name k content slots profiles apart parts.1 i)

-- an entry of a name has no other name
other_name : (name other : List ℕ) (entry : Loaded) → is_named name entry ≡ true → bytes_eq other name ≡ false → is_named other entry ≡ false
other_name name other entry is apart =
    ap (λ own. bytes_eq own other) ((bytes_eq-Decides entry.profile.name name).0 is) ∙ bytes_eq-comm name other ∙ apart

-- what is in the slot that an entry comes to has its name, if it is anything
held_there : (name other : List ℕ) (slots : List (Option Loaded)) (k : Option ℕ) (there : Option Loaded) → Finds name slots k there → bytes_eq other name ≡ false
    → holds other (content_at (place_for (length (trimmed slots)) k) slots) ≡ false
held_there name other slots None there h apart = ap (holds other) (content-behind slots)
held_there name other slots (Some k) there h apart = ap (holds other) h.at ∙ other_name name other h.entry h.named apart

-- so many slots there are up to the last filled one, when an entry came to its place
end_behind : (entry : Loaded) (slots : List (Option Loaded)) (k : Option ℕ) (there : Option Loaded) → Finds entry.profile.name slots k there
    → length (trimmed (with_content (place_for (length (trimmed slots)) k) (Some entry) slots)) ≡ next_behind (length (trimmed slots)) k
end_behind entry slots None there h =
    ap length (with-settled (length (trimmed slots)) (Some entry) slots ∙ with-end entry slots) ∙ length_push (trimmed slots) (Some entry)
end_behind entry slots (Some k) there h = ap length (with-settled k (Some entry) slots) ∙ length-with k entry slots h.within

-- profiles that come to their places, one after another
pub all-put : (set : Option Mode) (profiles : List Profile) (slots : List (Option Loaded)) → are_distinct profiles ≡ true
    → filled (after slots (filling set profiles (places (length (trimmed slots)) (all_found profiles slots)))) ≡ put_all set (filled slots) profiles
all-put set [] slots h = filled-trimmed slots
all-put set (profile ∷ profiles) slots h =
    let entry : Loaded = in_force set profile in
    let k : Option ℕ = found profile.name slots in
    let slot : ℕ = place_for (length (trimmed slots)) k in
    let there : List (Option Loaded) = with_content slot (Some entry) slots in
    let own = and_parts (not (list_any (is_profile_named profile.name) profiles)) (are_distinct profiles) h in
    let alone : list_any (is_profile_named profile.name) profiles ≡ false = not-true (list_any (is_profile_named profile.name) profiles) own.0 in
    let is = finds profile.name slots in
    let kept : all_found profiles there ≡ all_found profiles slots =
    all-kept profile.name slot (Some entry) slots profiles
    (λ other apart. (bytes_eq-comm profile.name other ∙ apart, held_there profile.name other slots k (entry_named profile.name (filled slots)) is apart)) alone in
    let end : length (trimmed there) ≡ next_behind (length (trimmed slots)) k = end_behind entry slots k (entry_named profile.name (filled slots)) is in
    (λ i. filled (after there (filling set profiles (places (sym end i) (sym kept i)))))
    ∙ all-put set profiles there own.1
    ∙ ap (λ entries. put_all set entries profiles) (filled-put entry slots)

-- profiles none of which is there come behind all
pub put_all-end : (set : Option Mode) (profiles : List Profile) (entries : List Loaded) → are_there profiles entries ≡ false → are_distinct profiles ≡ true
    → put_all set entries profiles ≡ entries ++ map (in_force set) profiles
put_all-end set [] entries h d = sym (append-nil entries)
put_all-end set (profile ∷ profiles) entries h d =
    let new = or_parts (has_name profile.name entries) (are_there profiles entries) h in
    let own = and_parts (not (list_any (is_profile_named profile.name) profiles)) (are_distinct profiles) d in
    let alone : list_any (is_profile_named profile.name) profiles ≡ false = not-true (list_any (is_profile_named profile.name) profiles) own.0 in
    ap (λ entries. put_all set entries profiles) (put_absent-end (in_force set profile) entries new.0)
    ∙ put_all-end set profiles (entries ++ in_force set profile ∷ []) (there-more set profiles entries profile new.1 alone) own.1
    ∙ append_assoc entries (in_force set profile ∷ []) (map (in_force set) profiles)

-- a part for each profile
pub length-filling : (set : Option Mode) (profiles : List Profile) (slots : List ℕ) → length slots ≡ length profiles → length (filling set profiles slots) ≡ length profiles
length-filling set [] slots h = refl
length-filling set (profile ∷ profiles) [] h = absurd (omega arith)
length-filling set (profile ∷ profiles) (slot ∷ slots) h = ap (λ n. suc n) (length-filling set profiles slots (omega arith))

pub length-places : (next : ℕ) (found : List (Option ℕ)) → length (places next found) ≡ length found
length-places next [] = refl
length-places next (None ∷ found) = ap (λ n. suc n) (length-places (next + 1) found)
length-places next (Some k ∷ found) = ap (λ n. suc n) (length-places next found)

-- the number behind the new ones is no smaller
behind-more : (next : ℕ) (found : List (Option ℕ)) → next ≤ behind next found
behind-more next [] = omega arith
behind-more next (None ∷ found) = let more = behind-more (next + 1) found in omega arith
behind-more next (Some k ∷ found) = behind-more next found

-- every slot is one before the number behind the new ones
pub filling-within : (set : Option Mode) (profiles : List Profile) (slots : List (Option Loaded)) (next : ℕ) (others : List Profile) → length (trimmed slots) ≤ next
    → All (λ part. part.slot < behind next (all_found profiles slots)) (filling set others (places next (all_found profiles slots)))
filling-within set [] slots next [] h = All-nil (λ (part : Part). part.slot < next)
filling-within set [] slots next (other ∷ others) h = All-nil (λ (part : Part). part.slot < next)
filling-within set (profile ∷ profiles) slots next [] h = All-nil (λ (part : Part). part.slot < behind next (all_found (profile ∷ profiles) slots))
filling-within set (profile ∷ profiles) slots next (other ∷ others) h =
    by (found profile.name slots) (finds profile.name slots) (λ next. filling-within set profiles slots next others)
  where
    by : (k : Option ℕ) → Finds profile.name slots k (entry_named profile.name (filled slots))
        → ((next : ℕ) → length (trimmed slots) ≤ next → All (λ part. part.slot < behind next (all_found profiles slots)) (filling set others (places next (all_found profiles slots))))
        → All (λ part. part.slot < behind next (k ∷ all_found profiles slots)) (filling set (other ∷ others) (places next (k ∷ all_found profiles slots)))
    by None f rest =
        All-cons (λ (part : Part). part.slot < behind (next + 1) (all_found profiles slots)) (record { slot = next; content = Whole (Some (in_force set other)) })
        (filling set others (places (next + 1) (all_found profiles slots))) (let more = behind-more (next + 1) (all_found profiles slots) in omega arith) (rest (next + 1) (omega arith))
    by (Some k) f rest =
        All-cons (λ (part : Part). part.slot < behind next (all_found profiles slots)) (record { slot = k; content = Whole (Some (in_force set other)) })
        (filling set others (places next (all_found profiles slots))) (let more = behind-more next (all_found profiles slots) in let within = f.within in omega arith) (rest next h)

-- entries without those of a name that isn't there
without-none : (profile : Profile) (entries : List Loaded) → has_name profile.name entries ≡ false → without (profile ∷ []) entries ≡ entries
without-none profile [] h = refl
without-none profile (entry ∷ entries) h =
    let parts = or_parts (is_named profile.name entry) (has_name profile.name entries) h in
    let apart : bytes_eq profile.name entry.profile.name ≡ false = bytes_eq-comm profile.name entry.profile.name ∙ parts.0 in
    rw (apart) (ap (λ entries. entry ∷ entries) (without-none profile entries parts.1))

-- entries without those of some names, and then without those of others
without-more : (profile : Profile) (profiles : List Profile) (entries : List Loaded) → without profiles (without (profile ∷ []) entries) ≡ without (profile ∷ profiles) entries
without-more profile profiles [] = refl
without-more profile profiles (entry ∷ entries) = by (bytes_eq profile.name entry.profile.name) (list_any (is_profile_named entry.profile.name) profiles) refl (without-more profile profiles entries)
  where
    by : (named some : Bool) → list_any (is_profile_named entry.profile.name) profiles ≡ some → without profiles (without (profile ∷ []) entries) ≡ without (profile ∷ profiles) entries
        → without profiles (cond (not (named || false)) (entry ∷ without (profile ∷ []) entries) (without (profile ∷ []) entries))
        ≡ cond (not (named || some)) (entry ∷ without (profile ∷ profiles) entries) (without (profile ∷ profiles) entries)
    by true some is h = h
    by false true is h = rw (is) (h)
    by false false is h = rw (is) (ap (λ entries. entry ∷ entries) h)

-- one slot is emptied
abbrev Emptied : Profile → List (Option Loaded) → Option ℕ → Type 0
Emptied profile slots None = ⊤
Emptied profile slots (Some k) = filled (with_content k None slots) ≡ without (profile ∷ []) (filled slots)

emptied : (profile : Profile) (slots : List (Option Loaded)) → have_distinct_names (filled slots) ≡ true → Emptied profile slots (found profile.name slots)
emptied profile [] h = tt
emptied profile (None ∷ slots) h = by (found profile.name slots) (emptied profile slots h)
  where
    by : (k : Option ℕ) → Emptied profile slots k → Emptied profile (None ∷ slots) (cond false (Some 0) (option_map (λ k. suc k) k))
    by None e = tt
    by (Some k) e = filled-onto None (with_content k None slots) ∙ e
emptied profile (Some entry ∷ slots) h = by (is_named profile.name entry) refl (found profile.name slots) (emptied profile slots parts.1)
  where
    parts : (not (list_any (is_profile_named entry.profile.name) (profiles_of (filled slots))) ≡ true) × (have_distinct_names (filled slots) ≡ true)
    parts = and_parts (not (list_any (is_profile_named entry.profile.name) (profiles_of (filled slots)))) (have_distinct_names (filled slots)) h

    absent : has_name entry.profile.name (filled slots) ≡ false
    absent = has-profile entry.profile.name (filled slots) ∙ not-true (list_any (is_profile_named entry.profile.name) (profiles_of (filled slots))) parts.0

    by : (here : Bool) → is_named profile.name entry ≡ here → (k : Option ℕ) → Emptied profile slots k → Emptied profile (Some entry ∷ slots) (cond here (Some 0) (option_map (λ k. suc k) k))
    by true is k e =
        let same : entry.profile.name ≡ profile.name = (bytes_eq-Decides entry.profile.name profile.name).0 is in
        rw (bytes_eq-comm profile.name entry.profile.name ∙ is)
        (filled-onto None (trimmed slots) ∙ filled-trimmed slots ∙ sym (without-none profile (filled slots) (ap (λ name. has_name name (filled slots)) (sym same) ∙ absent)))
    by false is None e = tt
    by false is (Some k) e = rw (bytes_eq-comm profile.name entry.profile.name ∙ is) (ap (λ entries. entry ∷ entries) e)

without-nil : (entries : List Loaded) → without [] entries ≡ entries
without-nil [] = refl
without-nil (entry ∷ entries) = ap (λ entries. entry ∷ entries) (without-nil entries)

-- slots are emptied, one after another
pub all-emptied : (profiles : List Profile) (slots : List (Option Loaded)) → are_distinct profiles ≡ true → have_distinct_names (filled slots) ≡ true
    → list_any is_none (all_found profiles slots) ≡ false
    → filled (after slots (emptying (all_found profiles slots))) ≡ without profiles (filled slots)
all-emptied [] slots d h all = filled-trimmed slots ∙ sym (without-nil (filled slots))
all-emptied (profile ∷ profiles) slots d h all = by (found profile.name slots) (finds profile.name slots) (emptied profile slots h) all (all-emptied profiles)
  where
    own : (not (list_any (is_profile_named profile.name) profiles) ≡ true) × (are_distinct profiles ≡ true)
    own = and_parts (not (list_any (is_profile_named profile.name) profiles)) (are_distinct profiles) d

    alone : list_any (is_profile_named profile.name) profiles ≡ false
    alone = not-true (list_any (is_profile_named profile.name) profiles) own.0

    by : (k : Option ℕ) → Finds profile.name slots k (entry_named profile.name (filled slots)) → Emptied profile slots k → list_any is_none (k ∷ all_found profiles slots) ≡ false
        → ((slots : List (Option Loaded)) → are_distinct profiles ≡ true → have_distinct_names (filled slots) ≡ true → list_any is_none (all_found profiles slots) ≡ false
        → filled (after slots (emptying (all_found profiles slots))) ≡ without profiles (filled slots))
        → filled (after slots (emptying (k ∷ all_found profiles slots))) ≡ without (profile ∷ profiles) (filled slots)
    by None f e all rest = absurd (cc)
    by (Some k) f e all rest =
        let there : List (Option Loaded) = with_content k None slots in
        let kept : all_found profiles there ≡ all_found profiles slots =
        all-kept profile.name k None slots profiles (λ other apart. (refl, ap (holds other) f.at ∙ other_name profile.name other f.entry f.named apart)) alone in
        ap (λ found. filled (after there (emptying found))) (sym kept)
        ∙ rest there own.1 (ap have_distinct_names e ∙ without-distinct (profile ∷ []) (filled slots) h) (ap (list_any is_none) kept ∙ all)
        ∙ ap (without profiles) e
        ∙ without-more profile profiles (filled slots)

-- a part for each profile
pub length-emptying : (found : List (Option ℕ)) → list_any is_none found ≡ false → length (emptying found) ≡ length found
length-emptying [] h = refl
length-emptying (None ∷ found) h = absurd (cc)
length-emptying (Some k ∷ found) h = ap (λ n. suc n) (length-emptying found h)

-- every slot is one up to the last filled one
pub emptying-within : (profiles : List Profile) (slots : List (Option Loaded)) → All (λ part. part.slot < length (trimmed slots)) (emptying (all_found profiles slots))
emptying-within [] slots = All-nil (λ (part : Part). part.slot < length (trimmed slots))
emptying-within (profile ∷ profiles) slots = by (found profile.name slots) (finds profile.name slots) (emptying-within profiles slots)
  where
    by : (k : Option ℕ) → Finds profile.name slots k (entry_named profile.name (filled slots)) → All (λ part. part.slot < length (trimmed slots)) (emptying (all_found profiles slots))
        → All (λ part. part.slot < length (trimmed slots)) (emptying (k ∷ all_found profiles slots))
    by None f rest = rest
    by (Some k) f rest =
        All-cons (λ (part : Part). part.slot < length (trimmed slots)) (record { slot = k; content = Whole None }) (emptying (all_found profiles slots)) f.within rest

-- an entry that is there comes to another state
pub switched : (name : List ℕ) (state : State) (slots : List (Option Loaded)) (k : ℕ) (entry : Loaded) → slot_named name slots ≡ Some k → entry_named name (filled slots) ≡ Some entry
    → can_be_in state entry ≡ true
    → filled (after slots (record { slot = k; content = InState state } ∷ [])) ≡ put (record { profile = entry.profile; state = state }) (filled slots)
switched name state slots k entry h is fit =
    let (at, own) = stands-at name slots k entry h is in
    let changed : Loaded = record { profile = entry.profile; state = state } in
    let same : put_in (InState state) (content_at k slots) ≡ Some changed = ap (put_in (InState state)) at ∙ ap (λ test. Some (cond test changed entry)) fit in
    filled-trimmed (with_content k (put_in (InState state) (content_at k slots)) slots)
    ∙ ap (λ content. filled (with_content k content slots)) same
    ∙ ap (λ found. filled (with_content (place_for (length (trimmed slots)) found) (Some changed) slots)) (sym own)
    ∙ filled-put changed slots

-- what was found, as the profiles' names are there
pub named-there : (found : List (Option ℕ)) (profiles : List Profile) (slots : List (Option Loaded)) → found ≡ slots_named profiles slots → list_any is_some found ≡ are_there profiles (filled slots)
named-there found profiles slots h = ap (list_any is_some) (h ∙ all_found-is profiles slots) ∙ some-there profiles slots

pub named-absent : (found : List (Option ℕ)) (profiles : List Profile) (slots : List (Option Loaded)) → found ≡ slots_named profiles slots
    → list_any is_none found ≡ some_are_absent profiles (filled slots)
named-absent found profiles slots h = ap (list_any is_none) (h ∙ all_found-is profiles slots) ∙ some-absent profiles slots

pub named-disabled : (found : List (Option ℕ)) (profiles : List Profile) (slots : List (Option Loaded)) → found ≡ slots_named profiles slots
    → list_any (is_disabled_at slots) found ≡ some_are_disabled profiles (filled slots)
named-disabled found profiles slots h = ap (list_any (is_disabled_at slots)) (h ∙ all_found-is profiles slots) ∙ some-disabled profiles slots

pub next-one : (next : ℕ) (k : Option ℕ) → next_behind next k ≤ next + 1
next-one next None = omega arith
next-one next (Some k) = omega arith

pub emptying-cons : (k : Option ℕ) (rest : List (Option ℕ)) → emptying (k ∷ rest) ≡ emptying (k ∷ []) ++ emptying rest
emptying-cons None rest = refl
emptying-cons (Some k) rest = refl

pub filling-cons : (set : Option Mode) (profile : Profile) (profiles : List Profile) (slot : ℕ) (slots : List ℕ)
    → filling set (profile ∷ profiles) (slot ∷ slots) ≡ filling set (profile ∷ []) (slot ∷ []) ++ filling set profiles slots
filling-cons set profile profiles slot slots = refl

-- the modes of a profile fit it
fits-modes : (set : Option Mode) (profile : Profile) → fits profile (Modes (modes_of set profile)) ≡ true
fits-modes set profile = let long = length-map profile.children (λ (child : Child). mode_of set child.mode) in grind (arith, nat_tests, long)

-- a profile that is switched comes into force in its place
pub mode-seen : (mode : Mode) (name : List ℕ) (slots : List (Option Loaded)) (k : ℕ) (entry : Loaded) (modes : List Mode) → slot_named name slots ≡ Some k
    → entry_named name (filled slots) ≡ Some entry → fits entry.profile entry.state ≡ true → modes ≡ modes_of (Some mode) entry.profile
    → with_mode mode (filled slots) name ≡ Ok (filled (after slots (record { slot = k; content = InState (Modes modes) } ∷ [])))
mode-seen mode name slots k entry modes h is fit same =
    ap (λ found. elim found [ None ↦ Err (plain Absent) | Some entry ↦ Ok (put (in_force (Some mode) entry.profile) (filled slots)) ]) is
    ∙ ap (λ (set : List Loaded). Ok set) (sym (
    ap (λ modes. filled (after slots (record { slot = k; content = InState (Modes modes) } ∷ []))) same
    ∙ switched name (Modes (modes_of (Some mode) entry.profile)) slots k entry h is
    (and_from (fits entry.profile entry.state) (fits entry.profile (Modes (modes_of (Some mode) entry.profile))) fit (fits-modes (Some mode) entry.profile))
    ))

-- one that is disabled stays in its place out of force
pub disabled-seen : (name : List ℕ) (slots : List (Option Loaded)) (k : ℕ) (entry : Loaded) → slot_named name slots ≡ Some k → entry_named name (filled slots) ≡ Some entry
    → fits entry.profile entry.state ≡ true → is_in_force entry.state ≡ true
    → with_disabled (filled slots) name ≡ Ok (filled (after slots (record { slot = k; content = InState DisabledState } ∷ [])))
disabled-seen name slots k entry h is fit force =
    ap (λ found. elim found [ None ↦ Err (plain Absent) | Some entry ↦ if is_in_force entry.state then Ok (put (disabled entry.profile) (filled slots)) else Err (plain Disabled) ]) is
    ∙ ap (λ test. if test then Ok (put (disabled entry.profile) (filled slots)) else Err (plain Disabled)) force
    ∙ ap (λ (set : List Loaded). Ok set)
    (sym (switched name DisabledState slots k entry h is (and_from (fits entry.profile entry.state) true fit refl)))

-- what was found, and where profiles come to by it
found-at : (profiles : List Profile) (slots : List (Option Loaded)) (end : ℕ) (found : List (Option ℕ)) (placed : List ℕ) → end ≡ length (trimmed slots)
    → found ≡ slots_named profiles slots → placed ≡ places end found → placed ≡ places (length (trimmed slots)) (all_found profiles slots)
found-at profiles slots end found placed e f p = p ∙ (λ i. places (e i) ((f ∙ all_found-is profiles slots) i))

-- the parts that load profiles: their slots
pub loading-within : (set : Option Mode) (profiles : List Profile) (slots : List (Option Loaded)) (end next : ℕ) (found : List (Option ℕ)) (placed : List ℕ) (parts : List Part)
    → end ≡ length (trimmed slots) → found ≡ slots_named profiles slots → placed ≡ places end found → next ≡ behind end found → parts ≡ filling set profiles placed
    → All (λ part. part.slot < next) parts
loading-within set profiles slots end next found placed parts e f p n h =
    let reach : next ≡ behind (length (trimmed slots)) (all_found profiles slots) = n ∙ (λ i. behind (e i) ((f ∙ all_found-is profiles slots) i)) in
    subst (λ n. All (λ (part : Part). part.slot < n) parts) (sym reach)
    (All-same (λ (part : Part). part.slot < behind (length (trimmed slots)) (all_found profiles slots)) parts
    (filling set profiles (places (length (trimmed slots)) (all_found profiles slots))) (h ∙ ap (filling set profiles) (found-at profiles slots end found placed e f p))
    (filling-within set profiles slots (length (trimmed slots)) profiles (omega arith)))

-- the entries after their exchange
pub loading-seen : (set : Option Mode) (profiles : List Profile) (slots : List (Option Loaded)) (end : ℕ) (found : List (Option ℕ)) (placed : List ℕ) (parts : List Part)
    → end ≡ length (trimmed slots) → found ≡ slots_named profiles slots → placed ≡ places end found → parts ≡ filling set profiles placed → are_distinct profiles ≡ true
    → filled (after slots parts) ≡ put_all set (filled slots) profiles
loading-seen set profiles slots end found placed parts e f p h own =
    ap (λ parts. filled (after slots parts)) (h ∙ ap (filling set profiles) (found-at profiles slots end found placed e f p)) ∙ all-put set profiles slots own

pub length-found : (profiles : List Profile) (slots : List (Option Loaded)) (found : List (Option ℕ)) → found ≡ slots_named profiles slots → length found ≡ length profiles
length-found profiles slots found h = ap length h ∙ length-map profiles (λ (profile : Profile). slot_named profile.name slots)

pub length-placed : (profiles : List Profile) (slots : List (Option Loaded)) (end : ℕ) (found : List (Option ℕ)) (placed : List ℕ) → found ≡ slots_named profiles slots
    → placed ≡ places end found → length placed ≡ length profiles
length-placed profiles slots end found placed f p = ap length p ∙ length-places end found ∙ length-found profiles slots found f

-- the parts that take profiles out: their slots
pub unloading-within : (profiles : List Profile) (slots : List (Option Loaded)) (end : ℕ) (found : List (Option ℕ)) (parts : List Part) → end ≡ length (trimmed slots)
    → found ≡ slots_named profiles slots → parts ≡ emptying found → All (λ part. part.slot < end) parts
unloading-within profiles slots end found parts e f h =
    subst (λ n. All (λ (part : Part). part.slot < n) parts) (sym e)
    (All-same (λ (part : Part). part.slot < length (trimmed slots)) parts (emptying (all_found profiles slots)) (h ∙ ap emptying (f ∙ all_found-is profiles slots)) (emptying-within profiles slots))

-- the entries after their exchange
pub unloading-seen : (profiles : List Profile) (slots : List (Option Loaded)) (found : List (Option ℕ)) (parts : List Part) → found ≡ slots_named profiles slots → parts ≡ emptying found
    → are_distinct profiles ≡ true → have_distinct_names (filled slots) ≡ true → list_any is_none found ≡ false → filled (after slots parts) ≡ without profiles (filled slots)
unloading-seen profiles slots found parts f h own apart all =
    let whole : found ≡ all_found profiles slots = f ∙ all_found-is profiles slots in
    ap (λ parts. filled (after slots parts)) (h ∙ ap emptying whole) ∙ all-emptied profiles slots own apart (sym (ap (list_any is_none) whole) ∙ all)

pub unloading-long : (profiles : List Profile) (slots : List (Option Loaded)) (found : List (Option ℕ)) (parts : List Part) → found ≡ slots_named profiles slots → parts ≡ emptying found
    → list_any is_none found ≡ false → length parts ≡ length profiles
unloading-long profiles slots found parts f h all = ap length h ∙ length-emptying found all ∙ length-found profiles slots found f

-- profiles that were put where none of them was are added
pub added-seen : (force : Bool) (entries set : List Loaded) (profiles : List Profile) → are_there profiles entries ≡ false → are_distinct profiles ≡ true
    → set ≡ put_all (forced force) entries profiles → with_added force entries profiles ≡ Ok set
added-seen force entries set profiles none own h =
    ap (λ test. if test then Err (plain Exists) else Ok (entries ++ map (loaded force) profiles)) none
    ∙ ap (λ (set : List Loaded). Ok set) (sym (h ∙ put_all-end (forced force) profiles entries none own))
