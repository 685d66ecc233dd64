-- That a session goes back no further than to the policy set that was loaded.
use Rattle.std.proofs.Common.{◌≡◌, ◌∙◌, ℕ, ◌+◌, ◌-◌, ◌≤◌, Bool, true, false, cond, ◌&&◌, List, [], ◌∷◌, ◌++◌, length, take, drop, Option, None, Some, Result, Ok, Err, inl, inr, refl, sym, ap, subst, arith, append_assoc, length-append}
use Rattle.std.specs.Prelude.{is_some, nat_le}
use Rattle.std.specs.List.{filter}
use Rattle.std.specs.Map.{lookup}
use Rattle.std.specs.Str.{bytes_eq}
use Rattle.std.proofs.lemmas.Bool.{le-leb, ltb-false}
use Rattle.std.proofs.lemmas.List.{take-append-drop, take-append-le}
use Rattle.std.proofs.Math.Seq.{take-append-add}
use Rattle.aa_decide_ready.specs.Entries.{Loaded}
use Rattle.aa_history.specs.Machine.{Machine, MarksItsSets, accepted, all_sets, can_go_back, can_go_on, gone_back, gone_on, gone_to_mark, marked, with_number}
use Rattle.aa_history.specs.MachineLaws.{BackKeepsSets, BackToSameSets, LengthsAfterBack, LengthsAfterOn, OnKeepsSets}
use Rattle.aa_history.specs.MarkLaws.{MarkIsReached, MarkKeepsAll}
use Rattle.aa_set_manager.specs.Outcomes.{Outcome, answered, changed, command_in, command_outcome, line_outcome, obeyed, obeyed_flagged, refused, takes_memory}
use Rattle.aa_set_manager.specs.Manager.{Managed, after_change, back_at, is_mark_name, marking, redone, undone}
use Rattle.aa_set_answers.specs.Answers.{reply_lines, shown}
use Rattle.aa_set_answers.specs.List.{list_lines}
use Rattle.aa_set_manager.specs.Changes.{changed as change_of_set, parts_of}
use Rattle.aa_set_commands.specs.Command.{Add, Ask, Back, Command as Order, Complain, Disable as DisableChange, Listed, Make, Mark, PolicyChange, Redo, Show, Undo}
use Rattle.aa_set_commands.specs.Refusal.{plain}
use Rattle.aa_set_commands.specs.declared.refusal.Refusal.{Refusal}
use Rattle.aa_set_commands.specs.declared.refusal.RefusalKind.TheVariants.{BadRequest, LineTooLong, Memory, NoMark, NothingToRedo, NothingToUndo}
use Rattle.aa_set_commands.specs.Limits.{longest_line}
use Rattle.aa_text_files.specs.Files.{File}
use Rattle.aatry_folder.specs.declared.loading.Loading.TheVariants as loading
use Rattle.aatry_session.specs.Laws.{IsInStep}
use Rattle.aatry_session.specs.LoadingLaws.{AddLeavesBehind, AddsBehind, AreFrom, BeginsBehind, ForgetsBehind, IsBehind, LeavesBehind, RefusesToUndoMore, StandsBehind, StaysBehind, SwitchesBehind, UndoesToTheLoaded}
use Rattle.aatry_session.specs.Turns.{Kept, Told, command_outcome as told_outcome, depth, line_obeyed, said_outcome, undoable}
use Rattle.aatry_session_told.specs.Commands.{change_in, is_above, undo_count}
use Rattle.aatry_session_told.specs.Refusals.{refusal_told}
use Rattle.aatry_session_told.specs.Sayings.{Command, Help, History, NoQuestion, Quit, Reload, Saying, Status, Widen, Why, saying_in}

-- the laws of machines that are needed
pub record Laws : Type 0 where
  pub back_sets : BackKeepsSets (List Loaded)
  pub on_sets : OnKeepsSets (List Loaded)
  pub back : LengthsAfterBack (List Loaded)
  pub on : LengthsAfterOn (List Loaded)
  pub keep : MarkKeepsAll (List Loaded)
  pub reached : MarkIsReached (List Loaded)

-- of marks that are of so many sets at least some are left
filtered_from : (low : ℕ) (keeps : List ℕ × ℕ → Bool) (marks : List (List ℕ × ℕ)) → AreFrom low marks → AreFrom low (filter keeps marks)
filtered_from low keeps [] h = tt
filtered_from low keeps (mark ∷ marks) h = by (keeps mark) (filtered_from low keeps marks h.1)
  where
    by : (stays : Bool) → AreFrom low (filter keeps marks) → AreFrom low (cond stays (mark ∷ filter keeps marks) (filter keeps marks))
    by true rest = (h.0, rest)
    by false rest = rest

-- one is set that is of so many
numbered_from : (low : ℕ) (name : List ℕ) (number : ℕ) (marks : List (List ℕ × ℕ)) → low ≤ number → AreFrom low marks → AreFrom low (with_number name number marks)
numbered_from low name number [] few h = (few, tt)
numbered_from low name number (mark ∷ marks) few h = by (bytes_eq mark.0 name) (numbered_from low name number marks few h.1)
  where
    by : (same : Bool) → AreFrom low (with_number name number marks) → AreFrom low (cond same ((name, number) ∷ marks) (mark ∷ with_number name number marks))
    by true rest = (few, h.1)
    by false rest = (h.0, rest)

-- what is found among them is of so many
found_from : (low : ℕ) (test : List ℕ → Bool) (marks : List (List ℕ × ℕ)) (number : ℕ) → AreFrom low marks → lookup test marks ≡ Some number → low ≤ number
found_from low test [] number h is = absurd (cc)
found_from low test (mark ∷ marks) number h is = by (test mark.0) (found_from low test marks number h.1) is
  where
    by : (own : Bool) → (lookup test marks ≡ Some number → low ≤ number) → cond own (Some mark.1) (lookup test marks) ≡ Some number → low ≤ number
    by true rest one = let same : mark.1 ≡ number = cc in subst (λ n. low ≤ n) same h.0
    by false rest one = rest one

-- a number that isn't above another
not_above : (most n : ℕ) (count : Option ℕ) → count ≡ Some n → is_above most count ≡ false → n ≤ most
not_above most n count is none = ltb-false most n (sym (ap (is_above most) is) ∙ none)

-- an accepted change stands behind what its machine stood behind
accepted_behind : (loaded machine : Machine (List Loaded)) (set : List Loaded) → StandsBehind loaded machine → StandsBehind loaded (accepted machine set)
accepted_behind loaded machine set h =
    let front = machine.earlier ++ machine.now ∷ [] in
    let size : length front ≡ length machine.earlier + 1 = length-append machine.earlier (machine.now ∷ []) in
    let first = length loaded.earlier + 1 in
    let few : first ≤ length front = omega (arith, size, h.within) in
    record {
      sets = take-append-le first front (set ∷ []) few
          ∙ sym (take-append-le first front machine.later few)
          ∙ ap (take first) (append_assoc machine.earlier (machine.now ∷ []) machine.later)
          ∙ h.sets;
      within = omega (arith, size, h.within);
      marked = filtered_from (length loaded.earlier) (λ mark. nat_le mark.1 (length machine.earlier)) machine.marks h.marked;
    }

-- what is left behind by an outcome
abbrev Behind : Machine (List Loaded) → Outcome → Type 0
Behind loaded outcome = StandsBehind loaded outcome.managed.machine

either_behind : (t : Bool) (loaded : Machine (List Loaded)) (a b : Outcome) → Behind loaded a → Behind loaded b → Behind loaded (cond t a b)
either_behind true loaded a b p q = p
either_behind false loaded a b p q = q

answered_behind : (loaded : Machine (List Loaded)) (managed : Managed) (r : Result (List ℕ) Refusal) → StandsBehind loaded managed.machine
    → Behind loaded (answered managed r)
answered_behind loaded managed (Ok lines) h = h
answered_behind loaded managed (Err refusal) h = h

change_behind : (loaded : Machine (List Loaded)) (managed : Managed) (size : ℕ) (r : Result (List Loaded) Refusal) → StandsBehind loaded managed.machine
    → Behind loaded (changed managed (after_change managed size r))
change_behind loaded managed size (Ok set) h = accepted_behind loaded managed.machine set h
change_behind loaded managed size (Err refusal) h = h

undone_behind : Laws → (loaded : Machine (List Loaded)) (managed : Managed) (n : ℕ) → n ≤ depth managed - length loaded.earlier
    → StandsBehind loaded managed.machine → Behind loaded (changed managed (undone n managed))
undone_behind laws loaded managed n few h = by (can_go_back n managed.machine) refl
  where
    by : (t : Bool) → can_go_back n managed.machine ≡ t
        → Behind loaded (changed managed (cond t (Ok (record managed { machine = gone_back n managed.machine })) (Err (plain NothingToUndo))))
    by true e = record {
      sets = ap (take (length loaded.earlier + 1)) (laws.back_sets n managed.machine e) ∙ h.sets;
      within = let lengths = (laws.back n managed.machine e).0 in omega (arith, lengths, few, h.within);
      marked = h.marked;
    }
    by false e = h

redone_behind : Laws → (loaded : Machine (List Loaded)) (managed : Managed) (n : ℕ) → StandsBehind loaded managed.machine
    → Behind loaded (changed managed (redone n managed))
redone_behind laws loaded managed n h = by (can_go_on n managed.machine) refl
  where
    by : (t : Bool) → can_go_on n managed.machine ≡ t
        → Behind loaded (changed managed (cond t (Ok (record managed { machine = gone_on n managed.machine })) (Err (plain NothingToRedo))))
    by true e = record {
      sets = ap (take (length loaded.earlier + 1)) (laws.on_sets n managed.machine e) ∙ h.sets;
      within = let lengths = (laws.on n managed.machine e).0 in omega (arith, lengths, h.within);
      marked = h.marked;
    }
    by false e = h

mark_behind : (loaded : Machine (List Loaded)) (managed : Managed) (name : List ℕ) → StandsBehind loaded managed.machine
    → Behind loaded (changed managed (marking name managed))
mark_behind loaded managed name h = by (is_mark_name name)
  where
    by : (t : Bool)
        → Behind loaded (changed managed (cond t (Ok (record managed {
          machine = record managed.machine { marks = with_number name (length managed.machine.earlier) managed.machine.marks };
        })) (Err (plain BadRequest))))
    by true = record {
      sets = h.sets;
      within = h.within;
      marked = numbered_from (length loaded.earlier) name (length managed.machine.earlier) managed.machine.marks h.within h.marked;
    }
    by false = h

back_behind : Laws → (loaded : Machine (List Loaded)) (managed : Managed) (name : List ℕ) → MarksItsSets managed.machine
    → StandsBehind loaded managed.machine → Behind loaded (changed managed (back_at name managed))
back_behind laws loaded managed name its h = by (marked name managed.machine) refl
  where
    by : (found : Option ℕ) → marked name managed.machine ≡ found
        → Behind loaded (changed managed (cond (is_some found) (Ok (record managed { machine = gone_to_mark name managed.machine })) (Err (plain NoMark))))
    by None e = h
    by (Some number) e = record {
      sets = ap (take (length loaded.earlier + 1)) (laws.keep name managed.machine its).0 ∙ h.sets;
      within =
          let low = found_from (length loaded.earlier) (λ other. bytes_eq other name) managed.machine.marks number h.marked e in
          let there = laws.reached name number managed.machine its e in omega (arith, low, there);
      marked = subst (AreFrom (length loaded.earlier)) (sym (laws.keep name managed.machine its).1) h.marked;
    }

obeyed_behind : Laws → (loaded : Machine (List Loaded)) (files : List File) (managed : Managed) (command : Order) → MarksItsSets managed.machine
    → ((n : ℕ) → undo_count (Ok (Some command)) ≡ Some n → n ≤ depth managed - length loaded.earlier)
    → StandsBehind loaded managed.machine → Behind loaded (obeyed files managed command)
obeyed_behind laws loaded files managed (Make change) its few h =
    change_behind loaded managed (parts_of files managed.settings change) (change_of_set files managed.settings managed.machine.now change) h
obeyed_behind laws loaded files managed (Undo n) its few h = undone_behind laws loaded managed n (few n refl) h
obeyed_behind laws loaded files managed (Redo n) its few h = redone_behind laws loaded managed n h
obeyed_behind laws loaded files managed (Mark name) its few h = mark_behind loaded managed name h
obeyed_behind laws loaded files managed (Back name) its few h = back_behind laws loaded managed name its h
obeyed_behind laws loaded files managed (Ask question) its few h = answered_behind loaded managed (reply_lines managed.machine.now question) h
obeyed_behind laws loaded files managed Listed its few h = h
obeyed_behind laws loaded files managed (Show name) its few h = answered_behind loaded managed (shown managed.machine.now name) h

flagged_behind : Laws → (loaded : Machine (List Loaded)) (files : List File) (managed : Managed) (flag : Bool) (command : Order)
    → MarksItsSets managed.machine
    → ((n : ℕ) → undo_count (Ok (Some command)) ≡ Some n → n ≤ depth managed - length loaded.earlier)
    → StandsBehind loaded managed.machine → Behind loaded (obeyed_flagged files managed flag command)
flagged_behind laws loaded files managed flag command its few h =
    either_behind (flag && takes_memory managed command) loaded (refused managed (plain Memory)) (obeyed files managed command) h
    (obeyed_behind laws loaded files managed command its few h)

command_behind : Laws → (loaded : Machine (List Loaded)) (files : List File) (managed : Managed) (flag : Bool) (command : Result (Option Order) Refusal)
    → MarksItsSets managed.machine
    → ((n : ℕ) → undo_count command ≡ Some n → n ≤ depth managed - length loaded.earlier)
    → StandsBehind loaded managed.machine → Behind loaded (command_outcome files managed flag command)
command_behind laws loaded files managed flag (Err refusal) its few h = h
command_behind laws loaded files managed flag (Ok None) its few h = h
command_behind laws loaded files managed flag (Ok (Some command)) its few h = flagged_behind laws loaded files managed flag command its few h

-- a line goes back no further, where so many changes are left out
line_behind : Laws → (loaded : Machine (List Loaded)) (files : List File) (left_out : ℕ) (managed : Managed) (line : List ℕ) (flag : Bool)
    → left_out ≡ length loaded.earlier → MarksItsSets managed.machine → StandsBehind loaded managed.machine
    → Behind loaded (line_obeyed files left_out managed line flag)
line_behind laws loaded files left_out managed line flag counted its h = by (nat_le (length line) longest_line)
  where
    count : Option ℕ
    count = undo_count (command_in line)

    most : ℕ
    most = undoable left_out managed

    few : is_above most count ≡ false → (n : ℕ) → count ≡ Some n → n ≤ depth managed - length loaded.earlier
    few none n is = let low = not_above most n count is none in omega (arith, low, counted)

    short : (more : Bool) → is_above most count ≡ more
        → Behind loaded (cond more (refused managed (plain NothingToUndo)) (command_outcome files managed flag (command_in line)))
    short true e = h
    short false e = command_behind laws loaded files managed flag (command_in line) its (few e) h

    by : (fits : Bool)
        → Behind loaded (cond (fits && is_above most count) (refused managed (plain NothingToUndo))
        (cond fits (command_outcome files managed flag (command_in line)) (refused managed (plain LineTooLong))))
    by true = short (is_above most count) refl
    by false = h

-- a history that begins here has all behind it
pub begins : BeginsBehind
begins kept none = (
  refl,
  record {
    sets = take-append-add kept.managed.machine.earlier (kept.managed.machine.now ∷ kept.managed.machine.later) 1;
    within = omega arith;
    marked = subst (AreFrom (length kept.managed.machine.earlier)) (sym none) tt;
  },
)

pub stays : Laws → StaysBehind
stays laws loaded files base words kept line flag step h = by (saying_in line)
  where
    by : (saying : Saying) → IsBehind loaded (said_outcome files base words kept line flag saying).kept
    by Command = (h.0, line_behind laws loaded files kept.loaded kept.managed line flag h.0 step.marked h.1)
    by Help = h
    by History = h
    by Widen = h
    by Quit = h
    by Reload = h
    by Status = h
    by (Why question) = h
    by (NoQuestion fault) = h

pub leaves : Laws → LeavesBehind
leaves laws loaded files before after line left step h = elim left [
  | inl same ↦ subst (IsBehind loaded) (sym same) h
  | inr told ↦ subst (IsBehind loaded) (sym told.1) (stays laws loaded files [] [] before line told.0 step h)
]

-- a change is none that undoes some
made_behind : Laws → (loaded : Machine (List Loaded)) (files : List File) (managed : Managed) (flag : Bool) (change : PolicyChange)
    → MarksItsSets managed.machine → StandsBehind loaded managed.machine → Behind loaded (obeyed_flagged files managed flag (Make change))
made_behind laws loaded files managed flag change its h =
    flagged_behind laws loaded files managed flag (Make change) its (λ n is. let wrong : None ≡ Some n = is in absurd (cc)) h

pub adds : Laws → AddsBehind
adds laws loaded files base kept name flag step h =
    (h.0, made_behind laws loaded files kept.managed flag (Add name) step.marked h.1)

pub switches : Laws → SwitchesBehind
switches laws loaded loading.ByFlags kept name step h = h
switches laws loaded loading.ForceComplain kept name step h = (h.0, made_behind laws loaded [] kept.managed false (Complain name) step.marked h.1)
switches laws loaded loading.Disable kept name step h = (h.0, made_behind laws loaded [] kept.managed false (DisableChange name) step.marked h.1)

pub leaves_adding : Laws → AddLeavesBehind
leaves_adding laws loaded files before after name left step h = elim left [
  | inl same ↦ subst (IsBehind loaded) (sym same) h
  | inr told ↦ subst (IsBehind loaded) (sym told.1) (adds laws loaded files [] before name told.0 step h)
]

pub forgets : ForgetsBehind
forgets loaded kept h = h

-- the machine that stands behind another has its sets, and further ones
all_behind : (loaded machine : Machine (List Loaded)) → StandsBehind loaded machine
    → all_sets machine ≡ loaded.earlier ++ loaded.now ∷ drop (length loaded.earlier + 1) (all_sets machine)
all_behind loaded machine h =
    let first = length loaded.earlier + 1 in
    sym (take-append-drop first (all_sets machine))
    ∙ ap (λ front. front ++ drop first (all_sets machine)) h.sets
    ∙ append_assoc loaded.earlier (loaded.now ∷ []) (drop first (all_sets machine))

pub undoes : BackToSameSets (List Loaded) → UndoesToTheLoaded
undoes same loaded kept h =
    let machine = kept.managed.machine in
    let n = undoable kept.loaded kept.managed in
    let counted : kept.loaded ≡ length loaded.earlier = h.0 in
    let within : length loaded.earlier ≤ length machine.earlier = h.1.within in
    let there : length loaded.earlier + n ≡ length machine.earlier = omega (arith, counted, within) in
    let few : n ≤ length machine.earlier = omega arith in
    let can : can_go_back n machine ≡ true = le-leb n (length machine.earlier) few in
    let is = same n loaded machine (drop (length loaded.earlier + 1) (all_sets machine)) (all_behind loaded machine h.1) there in (
      record kept.managed { machine = gone_back n machine },
      ap (λ can. cond can (Ok (record kept.managed { machine = gone_back n machine })) (Err (plain NothingToUndo))) can,
      ap (λ (m : Machine (List Loaded)). m.now) is,
      ap (λ (m : Machine (List Loaded)). m.earlier) is,
    )

-- a line that undoes more is refused
pub refuses : RefusesToUndoMore
refuses files base words kept line flag said more =
    ap (said_outcome files base words kept line flag) said
    ∙ ap (λ more. told_outcome files base kept (change_in (command_in line))
    (cond more (refused kept.managed (plain NothingToUndo)) (line_outcome files kept.managed line flag))) more
    ∙ by (change_in (command_in line))
  where
    by : (change : Option PolicyChange)
        → told_outcome files base kept change (refused kept.managed (plain NothingToUndo))
        ≡ record { answer = Told (refusal_told kept.managed.settings.language files base (plain NothingToUndo)); kept = kept }
    by None = refl
    by (Some change) = refl
