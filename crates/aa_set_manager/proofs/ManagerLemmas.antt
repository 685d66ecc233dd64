-- The manager as it stands for its machine over whole policy sets.
use Rattle.std.proofs.Common.{◌≡◌, not, ℕ, Bool, true, false, cond, List, [], ◌∷◌, ◌++◌, length, take, map, Option, None, Some, Result, Ok, Err, IfOk, IfErr, OnOk, OnErr, refl, sym, ap, subst, ◌∙◌}
use Rattle.std.proofs.lemmas.List.{length-map, map_push}
use Rattle.aa_decide_ready.specs.Named.{entry_named, have_distinct_names}
use Rattle.aa_decide_ready.specs.Entries.{Loaded, is_in_force}
use Rattle.aa_decide_ready.specs.Slots.{filled}
use Rattle.aa_history.specs.Machine.{Kept, Machine, accepted, all_sets, can_go_back, can_go_on, committed, gone_back, gone_on, gone_to_mark, is_marked, mapped, up_to, with_mark}
use Rattle.aa_history.specs.MachineLaws.{AllSetsAreMapped, BackIsMapped, BackKeepsSets, CanBackIsMapped, CanOnIsMapped, OnIsMapped, OnKeepsSets}
use Rattle.aa_history.specs.MarkLaws.{MarkIsMapped, ToMarkIsMapped}
use Rattle.aa_profile_parsing.specs.declared.language.Language.{Language}
use Rattle.aa_set_manager.specs.declared.settings.Settings.{Settings}
use Rattle.aa_profile.specs.FileReading.{file_profiles_in}
use Rattle.aa_text_files.specs.Files.{File}
use Rattle.aa_profile_data.specs.declared.profile.Profile.{Profile}
use Rattle.aa_set_manager.specs.Changes.{by_file, disabled, in_force, is_disabled, is_loaded, profile_count, put, with_added, with_disabled, with_mode, with_replaced}
use Rattle.aa_profile_data.specs.declared.profile.Mode.{Mode}
use Rattle.std.specs.Prelude.{is_none}
use Rattle.aa_set_manager.specs.code.Making.{Makes}
use Rattle.aa_set_commands.specs.Refusal.{IsRefusalOf, plain}
use Rattle.aa_set_commands.specs.declared.refusal.Refusal.{Refusal}
use Rattle.aa_set_commands.specs.declared.refusal.RefusalKind.TheVariants.{Absent, BadRequest, Disabled, Memory, NoMark, NothingToRedo, NothingToUndo}
use Rattle.aa_set_parts.specs.Parts.{Reaching, after}
use Rattle.aa_set_parts.specs.PartLaws.{after-trimmed}
use Rattle.aa_set_parts.specs.SlotLaws.{filled-trimmed}
use Rattle.aa_set_parts.specs.Slots.{trimmed}
use Rattle.aa_set_parts.specs.declared.parts.Part.{Part}
use Rattle.aa_set_manager.specs.Manager.{AreDistinct, Managed, added, after_change, after_commit, back_at, is_mark_name, made, managed_by, marking, redone, replaced, undone}
use Rattle.aa_set_commands.specs.Command.{Add, Replace}
use Rattle.aa_set_manager.proofs.DistinctLemmas.{accepted-distinct, distinct-behind}

-- what is kept of slots, as it stands for policy sets
abbrev pub seen : Kept (List (Option Loaded)) → Kept (List Loaded)
seen kept = record { machine = mapped filled kept.machine; sizes = kept.sizes }

-- each policy set that is kept has distinct names
abbrev pub KeepDistinct : Kept (List (Option Loaded)) → Type 0
KeepDistinct kept = AreDistinct (all_sets (mapped filled kept.machine))

-- the entries of slots are those of what they stand for
pub entries-seen : (slots now : List (Option Loaded)) → trimmed slots ≡ now → filled slots ≡ filled now
entries-seen slots now h = sym (filled-trimmed slots) ∙ ap filled h

-- and so after an exchange
after-seen : (slots now : List (Option Loaded)) (parts : List Part) → trimmed slots ≡ now → after slots parts ≡ after now parts
after-seen slots now parts h = sym (after-trimmed slots parts) ∙ ap (λ slots. after slots parts) h

same_managed : {settings : Settings} {a b : Machine (List Loaded)} {x y : List ℕ} → a ≡ b → x ≡ y
    → ◌≡◌ {A = Managed} (record { settings = settings; machine = a; sizes = x }) (record { settings = settings; machine = b; sizes = y })
same_managed {settings} p q = λ i. record { settings = settings; machine = p i; sizes = q i }

same_machine : {a b : List (List Loaded)} {now : List Loaded} {x y : List (List ℕ × ℕ)} → a ≡ b → x ≡ y
    → ◌≡◌ {A = Machine (List Loaded)} (record { earlier = a; now = now; later = []; marks = x }) (record { earlier = b; now = now; later = []; marks = y })
same_machine {now = now} p q = λ i. record { earlier = p i; now = now; later = []; marks = q i }

accepted-seen : (machine : Machine (List (Option Loaded))) (slots : List (Option Loaded)) → mapped filled (accepted machine slots) ≡ accepted (mapped filled machine) (filled slots)
accepted-seen machine slots =
    same_machine (map_push filled machine.earlier machine.now) (ap (λ number. up_to number machine.marks) (sym (length-map machine.earlier filled)))

-- a commit of slots, as it stands for one of policy sets
pub committed-seen : (settings : Settings) (kept : Kept (List (Option Loaded))) (slots : List (Option Loaded)) (size : ℕ)
    → managed_by settings (seen (committed kept slots size)) ≡ after_commit (managed_by settings (seen kept)) (filled slots) size
committed-seen settings kept slots size =
    same_managed (accepted-seen kept.machine slots) (ap (λ n. take n kept.sizes ++ size ∷ []) (sym (length-map kept.machine.earlier filled)))

-- a change that was made to the slots is one of policy sets
change-seen : (settings : Settings) (kept new : Kept (List (Option Loaded))) (slots : List (Option Loaded)) (parts : List Part) (size : ℕ) (result : Result (List Loaded) Refusal)
    → trimmed slots ≡ kept.machine.now → result ≡ Ok (filled (after slots parts)) → length parts ≡ size
    → new ≡ committed kept (after kept.machine.now parts) (length parts)
    → after_change (managed_by settings (seen kept)) size result ≡ Ok (managed_by settings (seen new))
change-seen settings kept new slots parts size result state made long is =
    ap (after_change (managed_by settings (seen kept)) size) (made ∙ ap (λ slots. Ok (filled slots)) (after-seen slots kept.machine.now parts state))
    ∙ ap (λ (managed : Managed). Ok managed) (
    ap (after_commit (managed_by settings (seen kept)) (filled (after kept.machine.now parts))) (sym long)
    ∙ sym (committed-seen settings kept (after kept.machine.now parts) (length parts))
    ∙ ap (λ kept. managed_by settings (seen kept)) (sym is)
    )

-- and its policy sets have distinct names
committed-distinct : (kept new : Kept (List (Option Loaded))) (slots : List (Option Loaded)) (parts : List Part) (result : Result (List Loaded) Refusal)
    → trimmed slots ≡ kept.machine.now → result ≡ Ok (filled (after slots parts)) → new ≡ committed kept (after kept.machine.now parts) (length parts)
    → KeepDistinct kept → IfOk result (λ set. have_distinct_names set ≡ true) → KeepDistinct new
committed-distinct kept new slots parts result state made is distinct keeps =
    let apart : have_distinct_names (filled (after kept.machine.now parts)) ≡ true =
    ap (λ slots. have_distinct_names (filled slots)) (sym (after-seen slots kept.machine.now parts state)) ∙ subst (λ result. IfOk result (λ set. have_distinct_names set ≡ true)) made keeps in
    subst KeepDistinct (sym is)
    (subst (λ machine. AreDistinct (all_sets machine)) (sym (accepted-seen kept.machine (after kept.machine.now parts)))
    (accepted-distinct (mapped filled kept.machine) (filled (after kept.machine.now parts)) distinct apart))

-- the policy set now has distinct names
pub now-distinct : (kept : Kept (List (Option Loaded))) → KeepDistinct kept → have_distinct_names (filled kept.machine.now) ≡ true
now-distinct kept h = (distinct-behind (map filled kept.machine.earlier) (filled kept.machine.now ∷ map filled kept.machine.later) h).0

-- a change by the profiles of a file that was read
pub by-file : (change : List Loaded → List Profile → Result (List Loaded) Refusal) (language : Language) (files : List File) (name : List ℕ) (entries now : List Loaded) (profiles : List Profile)
    (outcome : Result (List Loaded) Refusal) → file_profiles_in language files name ≡ Ok profiles → entries ≡ now → change entries profiles ≡ outcome → by_file (change now) (file_profiles_in language files name) ≡ outcome
by-file change language files name entries now profiles outcome h same is = ap (by_file (change now)) h ∙ ap (λ entries. change entries profiles) (sym same) ∙ is

pub file-parts : (language : Language) (files : List File) (name : List ℕ) (profiles : List Profile) (size : ℕ) → file_profiles_in language files name ≡ Ok profiles → size ≡ length profiles
    → size ≡ profile_count (file_profiles_in language files name)
file-parts language files name profiles size h is = is ∙ sym (ap profile_count h)

-- a change by profiles, of equal entries
pub by-entries : (change : List Loaded → List Profile → Result (List Loaded) Refusal) (entries now : List Loaded) (profiles : List Profile)
    (outcome : Result (List Loaded) Refusal) → entries ≡ now → change entries profiles ≡ outcome → change now profiles ≡ outcome
by-entries change entries now profiles outcome same is = ap (λ entries. change entries profiles) (sym same) ∙ is

-- what a change by a file keeps is what the change by its profiles keeps
pub of-file : (change : List Profile → Result (List Loaded) Refusal) (language : Language) (files : List File) (name : List ℕ) (profiles : List Profile) → file_profiles_in language files name ≡ Ok profiles
    → IfOk (by_file change (file_profiles_in language files name)) (λ set. have_distinct_names set ≡ true) → IfOk (change profiles) (λ set. have_distinct_names set ≡ true)
of-file change language files name profiles h keeps = subst (λ read. IfOk (by_file change read) (λ set. have_distinct_names set ≡ true)) h keeps

-- `add` of a file adds its profiles, and `replace` puts them in their places
pub added-of-file : (language : Language) (files : List File) (name : List ℕ) (managed : Managed) (profiles : List Profile) → language ≡ managed.settings.language
    → file_profiles_in language files name ≡ Ok profiles → added managed profiles ≡ made files managed (Add name)
added-of-file language files name managed profiles same h =
    sym (ap (λ read. after_change managed (profile_count read) (by_file (with_added managed.settings.force_complain managed.machine.now) read))
    (ap (λ language. file_profiles_in language files name) (sym same) ∙ h))

pub replaced-of-file : (language : Language) (files : List File) (name : List ℕ) (managed : Managed) (profiles : List Profile) → language ≡ managed.settings.language
    → file_profiles_in language files name ≡ Ok profiles → replaced managed profiles ≡ made files managed (Replace name)
replaced-of-file language files name managed profiles same h =
    sym (ap (λ read. after_change managed (profile_count read) (by_file (with_replaced managed.settings.force_complain managed.machine.now) read))
    (ap (λ language. file_profiles_in language files name) (sym same) ∙ h))

-- changes back over slots, as they stand for changes back over policy sets
pub undone-seen : BackIsMapped (List (Option Loaded)) (List Loaded) → CanBackIsMapped (List (Option Loaded)) (List Loaded)
    → (settings : Settings) (n : ℕ) (kept new : Kept (List (Option Loaded))) → can_go_back n kept.machine ≡ true → new ≡ record kept { machine = gone_back n kept.machine }
    → undone n (managed_by settings (seen kept)) ≡ Ok (managed_by settings (seen new))
undone-seen back can settings n kept new h is =
    ap (λ test. cond test (Ok (record (managed_by settings (seen kept)) { machine = gone_back n (mapped filled kept.machine) })) (Err (plain NothingToUndo))) (can filled n kept.machine ∙ h)
    ∙ ap (λ (machine : Machine (List Loaded)). Ok (record (managed_by settings (seen kept)) { machine = machine })) (sym (back filled n kept.machine h))
    ∙ ap (λ kept. Ok (managed_by settings (seen kept))) (sym is)

pub none-undone : CanBackIsMapped (List (Option Loaded)) (List Loaded) → (settings : Settings) (n : ℕ) (kept : Kept (List (Option Loaded))) → can_go_back n kept.machine ≡ false
    → undone n (managed_by settings (seen kept)) ≡ Err (plain NothingToUndo)
none-undone can settings n kept h =
    ap (λ test. cond test (Ok (record (managed_by settings (seen kept)) { machine = gone_back n (mapped filled kept.machine) })) (Err (plain NothingToUndo))) (can filled n kept.machine ∙ h)

pub undone-distinct : BackKeepsSets (List (Option Loaded)) → AllSetsAreMapped (List (Option Loaded)) (List Loaded)
    → (n : ℕ) (kept new : Kept (List (Option Loaded))) → can_go_back n kept.machine ≡ true → new ≡ record kept { machine = gone_back n kept.machine } → KeepDistinct kept → KeepDistinct new
undone-distinct keeps all n kept new h is distinct =
    subst KeepDistinct (sym is)
    (subst AreDistinct (all filled kept.machine ∙ ap (map filled) (sym (keeps n kept.machine h)) ∙ sym (all filled (gone_back n kept.machine))) distinct)

-- and changes on
pub redone-seen : OnIsMapped (List (Option Loaded)) (List Loaded) → CanOnIsMapped (List (Option Loaded)) (List Loaded)
    → (settings : Settings) (n : ℕ) (kept new : Kept (List (Option Loaded))) → can_go_on n kept.machine ≡ true → new ≡ record kept { machine = gone_on n kept.machine }
    → redone n (managed_by settings (seen kept)) ≡ Ok (managed_by settings (seen new))
redone-seen on can settings n kept new h is =
    ap (λ test. cond test (Ok (record (managed_by settings (seen kept)) { machine = gone_on n (mapped filled kept.machine) })) (Err (plain NothingToRedo))) (can filled n kept.machine ∙ h)
    ∙ ap (λ (machine : Machine (List Loaded)). Ok (record (managed_by settings (seen kept)) { machine = machine })) (sym (on filled n kept.machine h))
    ∙ ap (λ kept. Ok (managed_by settings (seen kept))) (sym is)

pub none-redone : CanOnIsMapped (List (Option Loaded)) (List Loaded) → (settings : Settings) (n : ℕ) (kept : Kept (List (Option Loaded))) → can_go_on n kept.machine ≡ false
    → redone n (managed_by settings (seen kept)) ≡ Err (plain NothingToRedo)
none-redone can settings n kept h =
    ap (λ test. cond test (Ok (record (managed_by settings (seen kept)) { machine = gone_on n (mapped filled kept.machine) })) (Err (plain NothingToRedo))) (can filled n kept.machine ∙ h)

pub redone-distinct : OnKeepsSets (List (Option Loaded)) → AllSetsAreMapped (List (Option Loaded)) (List Loaded)
    → (n : ℕ) (kept new : Kept (List (Option Loaded))) → can_go_on n kept.machine ≡ true → new ≡ record kept { machine = gone_on n kept.machine } → KeepDistinct kept → KeepDistinct new
redone-distinct keeps all n kept new h is distinct =
    subst KeepDistinct (sym is)
    (subst AreDistinct (all filled kept.machine ∙ ap (map filled) (sym (keeps n kept.machine h)) ∙ sym (all filled (gone_on n kept.machine))) distinct)

-- a mark of slots, as it stands for one of policy sets
pub marking-seen : MarkIsMapped (List (Option Loaded)) (List Loaded) → (settings : Settings) (name : List ℕ) (kept new : Kept (List (Option Loaded))) → is_mark_name name ≡ true
    → new ≡ record kept { machine = with_mark name kept.machine } → marking name (managed_by settings (seen kept)) ≡ Ok (managed_by settings (seen new))
marking-seen mark settings name kept new h is =
    ap (λ test. cond test (Ok (record (managed_by settings (seen kept)) { machine = with_mark name (mapped filled kept.machine) })) (Err (plain BadRequest))) h
    ∙ ap (λ (machine : Machine (List Loaded)). Ok (record (managed_by settings (seen kept)) { machine = machine })) (sym (mark filled name kept.machine))
    ∙ ap (λ kept. Ok (managed_by settings (seen kept))) (sym is)

pub none-marking : (settings : Settings) (name : List ℕ) (kept : Kept (List (Option Loaded))) → is_mark_name name ≡ false → marking name (managed_by settings (seen kept)) ≡ Err (plain BadRequest)
none-marking settings name kept h =
    ap (λ test. cond test (Ok (record (managed_by settings (seen kept)) { machine = with_mark name (mapped filled kept.machine) })) (Err (plain BadRequest))) h

pub marking-distinct : (name : List ℕ) (kept new : Kept (List (Option Loaded))) → new ≡ record kept { machine = with_mark name kept.machine } → KeepDistinct kept → KeepDistinct new
marking-distinct name kept new is distinct = subst KeepDistinct (sym is) distinct

-- going to a mark over slots, as it stands for going to it over policy sets
pub back-seen : ToMarkIsMapped (List (Option Loaded)) (List Loaded) → (settings : Settings) (name : List ℕ) (kept new : Kept (List (Option Loaded))) → is_marked name kept.machine ≡ true
    → new ≡ record kept { machine = gone_to_mark name kept.machine } → back_at name (managed_by settings (seen kept)) ≡ Ok (managed_by settings (seen new))
back-seen to settings name kept new h is =
    ap (λ test. cond test (Ok (record (managed_by settings (seen kept)) { machine = gone_to_mark name (mapped filled kept.machine) })) (Err (plain NoMark))) h
    ∙ ap (λ (machine : Machine (List Loaded)). Ok (record (managed_by settings (seen kept)) { machine = machine })) (sym (to filled name kept.machine))
    ∙ ap (λ kept. Ok (managed_by settings (seen kept))) (sym is)

pub none-back : (settings : Settings) (name : List ℕ) (kept : Kept (List (Option Loaded))) → is_marked name kept.machine ≡ false → back_at name (managed_by settings (seen kept)) ≡ Err (plain NoMark)
none-back settings name kept h =
    ap (λ test. cond test (Ok (record (managed_by settings (seen kept)) { machine = gone_to_mark name (mapped filled kept.machine) })) (Err (plain NoMark))) h

pub back-distinct : AllSetsAreMapped (List (Option Loaded)) (List Loaded) → (kept new : Kept (List (Option Loaded))) → all_sets new.machine ≡ all_sets kept.machine → KeepDistinct kept → KeepDistinct new
back-distinct all kept new same distinct = subst AreDistinct (all filled kept.machine ∙ ap (map filled) (sym same) ∙ sym (all filled new.machine)) distinct

-- what was asked of the slots, as it stands for policy sets: where the change was made
pub made-ok : (settings : Settings) (kept new : Kept (List (Option Loaded))) (slots : List (Option Loaded)) (size : ℕ) (outcome : Result (List Loaded) Refusal)
    (exchange : Result Reaching Refusal) (result : Result (Unit {0}) Refusal) → Makes kept new exchange result → trimmed slots ≡ kept.machine.now
    → IfOk exchange (λ exchange. outcome ≡ Ok (filled (after slots exchange.parts))) → IfOk exchange (λ exchange. length exchange.parts ≡ size)
    → OnOk result (after_change (managed_by settings (seen kept)) size outcome ≡ Ok (managed_by settings (seen new)))
made-ok settings kept new slots size outcome (Ok exchange) (Ok done) makes state made long = change-seen settings kept new slots exchange.parts size outcome state made long makes
made-ok settings kept new slots size outcome (Ok exchange) (Err refusal) makes state made long = tt
made-ok settings kept new slots size outcome (Err cause) (Ok done) makes state made long = absurd makes
made-ok settings kept new slots size outcome (Err cause) (Err refusal) makes state made long = tt

-- where it was refused
pub made-refused : (managed : Managed) (kept new : Kept (List (Option Loaded))) (size : ℕ) (outcome : Result (List Loaded) Refusal) (exchange : Result Reaching Refusal)
    (result : Result (Unit {0}) Refusal) → Makes kept new exchange result → IfErr exchange (IsRefusalOf outcome)
    → IfErr result (IsRefusalOf (after_change managed size outcome))
made-refused managed kept new size outcome (Ok exchange) (Ok done) makes refused = tt
made-refused managed kept new size outcome (Ok exchange) (Err refusal) makes refused = λ other. absurd (other makes.0)
made-refused managed kept new size outcome (Err cause) (Ok done) makes refused = absurd makes
made-refused managed kept new size outcome (Err cause) (Err refusal) makes refused = λ other.
    ap (after_change managed size) (refused (λ same. other (makes.0 ∙ same))) ∙ ap (λ (refusal : Refusal). Err refusal) (sym makes.0)

-- where it found no memory
pub made-memory : (fact : Type 0) (kept new : Kept (List (Option Loaded))) (exchange : Result Reaching Refusal) (result : Result (Unit {0}) Refusal) → Makes kept new exchange result
    → IfErr exchange (λ refusal. refusal ≡ plain Memory → fact) → IfOk exchange (λ exchange. fact) → IfErr result (λ refusal. refusal ≡ plain Memory → fact)
made-memory fact kept new (Ok exchange) (Ok done) makes refused ok = tt
made-memory fact kept new (Ok exchange) (Err refusal) makes refused ok = λ memory. ok
made-memory fact kept new (Err cause) (Ok done) makes refused ok = absurd makes
made-memory fact kept new (Err cause) (Err refusal) makes refused ok = λ memory. refused (sym makes.0 ∙ memory)

-- what is unchanged
pub made-unchanged : (settings : Settings) (kept new : Kept (List (Option Loaded))) (exchange : Result Reaching Refusal) (result : Result (Unit {0}) Refusal) → Makes kept new exchange result
    → OnErr result (managed_by settings (seen new) ≡ managed_by settings (seen kept))
made-unchanged settings kept new (Ok exchange) (Ok done) makes = tt
made-unchanged settings kept new (Ok exchange) (Err refusal) makes = ap (λ kept. managed_by settings (seen kept)) makes.1
made-unchanged settings kept new (Err cause) (Ok done) makes = absurd makes
made-unchanged settings kept new (Err cause) (Err refusal) makes = ap (λ kept. managed_by settings (seen kept)) makes.1

-- and that names stay apart
pub made-distinct : (kept new : Kept (List (Option Loaded))) (slots : List (Option Loaded)) (outcome : Result (List Loaded) Refusal) (exchange : Result Reaching Refusal)
    (result : Result (Unit {0}) Refusal) → Makes kept new exchange result → trimmed slots ≡ kept.machine.now
    → IfOk exchange (λ exchange. outcome ≡ Ok (filled (after slots exchange.parts))) → KeepDistinct kept → IfOk outcome (λ set. have_distinct_names set ≡ true) → KeepDistinct new
made-distinct kept new slots outcome (Ok exchange) (Ok done) makes state made distinct keeps = committed-distinct kept new slots exchange.parts outcome state made makes distinct keeps
made-distinct kept new slots outcome (Ok exchange) (Err refusal) makes state made distinct keeps = subst KeepDistinct (sym makes.1) distinct
made-distinct kept new slots outcome (Err cause) (Ok done) makes state made distinct keeps = absurd makes
made-distinct kept new slots outcome (Err cause) (Err refusal) makes state made distinct keeps = subst KeepDistinct (sym makes.1) distinct

-- a fact of an accepted exchange, by another of it
pub of-ok : (P Q : Reaching → Type 0) (exchange : Result Reaching Refusal) → IfOk exchange P → ((exchange : Reaching) → P exchange → Q exchange) → IfOk exchange Q
of-ok P Q (Ok exchange) is each = each exchange is
of-ok P Q (Err refusal) is each = tt

pub of-err : (P Q : Refusal → Type 0) (exchange : Result Reaching Refusal) → IfErr exchange P → ((refusal : Refusal) → P refusal → Q refusal) → IfErr exchange Q
of-err P Q (Ok exchange) is each = tt
of-err P Q (Err refusal) is each = each refusal is

-- a name that was switched is there
pub mode-loaded : (mode : Mode) (entries set : List Loaded) (name : List ℕ) → with_mode mode entries name ≡ Ok set → is_loaded name entries ≡ true
mode-loaded mode entries set name h = by (entry_named name entries) h
  where
    by : (found : Option Loaded) → ◌≡◌ {A = Result (List Loaded) Refusal} (elim found [ None ↦ Err (plain Absent) | Some entry ↦ Ok (put (in_force (Some mode) entry.profile) entries) ]) (Ok set)
        → not (is_none found) ≡ true
    by None h = absurd (cc)
    by (Some entry) h = refl

-- one that was disabled is there, and was in force
pub disabled-loaded : (entries set : List Loaded) (name : List ℕ) → with_disabled entries name ≡ Ok set → (is_loaded name entries ≡ true) × (is_disabled name entries ≡ false)
disabled-loaded entries set name h = by (entry_named name entries) h
  where
    by_state : (entry : Loaded) (test : Bool) → cond {A = Result (List Loaded) Refusal} test (Ok (put (disabled entry.profile) entries)) (Err (plain Disabled)) ≡ Ok set → not test ≡ false
    by_state entry true h = refl
    by_state entry false h = absurd (cc)

    by : (found : Option Loaded)
        → ◌≡◌ {A = Result (List Loaded) Refusal}
        (elim found [ None ↦ Err (plain Absent) | Some entry ↦ cond (is_in_force entry.state) (Ok (put (disabled entry.profile) entries)) (Err (plain Disabled)) ]) (Ok set)
        → (not (is_none found) ≡ true) × ((elim found [ None ↦ false | Some entry ↦ not (is_in_force entry.state) ]) ≡ false)
    by None h = absurd (cc)
    by (Some entry) h = (refl, by_state entry (is_in_force entry.state) h)
