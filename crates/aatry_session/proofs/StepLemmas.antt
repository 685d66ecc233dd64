-- That a session stays in step.
use Rattle.std.proofs.Common.{◌≡◌, ℕ, zero, suc, ◌+◌, Bool, true, false, cond, leb, ◌&&◌, List, [], ◌∷◌, ◌++◌, length, take, Option, None, Some, Result, Ok, Err, refl, ap, arith, length-append}
use Rattle.std.proofs.lemmas.List.{length-take-le}
use Rattle.aa_history.specs.Machine.{Machine, MarksItsSets, accepted, can_go_back, can_go_on, gone_back, gone_on, gone_to_mark, is_marked, with_mark}
use Rattle.aa_history.specs.MachineLaws.{LengthsAfterBack, LengthsAfterOn}
use Rattle.aa_history.specs.MarkLaws.{Accept, Mark as MarkStep, MarkKeepsAll, Redo as RedoStep, Return, StepsMarkTheirSets, Undo as UndoStep}
use Rattle.aa_decide_ready.specs.Entries.{Loaded}
use Rattle.aa_profile_parsing.specs.declared.language.Language.{Language}
use Rattle.aa_set_manager.specs.Outcomes.{Outcome, answered, changed, command_in, command_outcome, line_outcome, obeyed, refused, takes_memory}
use Rattle.aa_set_manager.specs.Manager.{after_change, back_at, is_mark_name, marking, redone, undone}
use Rattle.aa_set_answers.specs.Answers.{reply_lines, shown}
use Rattle.aa_set_manager.specs.Changes.{changed as change_of_set, parts_of}
use Rattle.aa_set_commands.specs.Command.{Ask, Back, Command, Listed, Make, Mark, PolicyChange, Redo, Show, Undo}
use Rattle.aa_set_commands.specs.Refusal.{plain}
use Rattle.aa_set_commands.specs.declared.refusal.Refusal.{Refusal}
use Rattle.aa_set_commands.specs.declared.refusal.RefusalKind.TheVariants.{BadRequest, LineTooLong, Memory, NoMark, NothingToRedo, NothingToUndo}
use Rattle.aa_set_commands.specs.Limits.{longest_line}
use Rattle.aa_set_answers.specs.List.{list_lines}
use Rattle.aa_text_files.specs.Files.{File}
use Rattle.aa_set_manager.specs.declared.reply.Reply.{Reply}
use Rattle.aa_set_manager.specs.declared.reply.Reply.TheVariants.{Answered, Done, Refused, Silent}
use Rattle.aatry_policy.specs.declared.origins.Origin.{Origin}
use Rattle.aatry_session.specs.Changes.{kept_with}
use Rattle.aatry_session_told.specs.Commands.{change_in, undoes_more}
use Rattle.aatry_session_told.specs.History.{change_text}
use Rattle.aatry_session.specs.Origins.{change_origins}
use Rattle.aatry_session.specs.Turns.{Kept, depth, line_obeyed, origins_behind, texts_behind, undoable}

-- as many texts as changes, and marks of the machine's own sets
abbrev InStep : List (List ℕ) → Machine (List Loaded) → Type 0
InStep texts machine = (length texts ≡ length machine.earlier + length machine.later) × MarksItsSets machine

-- the same after an outcome
abbrev pub Keeps : Kept → Option PolicyChange → Outcome → Type 0
Keeps kept change outcome = InStep (texts_behind (depth kept.managed) change outcome.reply kept.texts) outcome.managed.machine

either_keeps : (t : Bool) (kept : Kept) (change : Option PolicyChange) (a b : Outcome) → Keeps kept change a → Keeps kept change b → Keeps kept change (cond t a b)
either_keeps true kept change a b p q = p
either_keeps false kept change a b p q = q

refusal_keeps : (kept : Kept) (change : Option PolicyChange) (refusal : Refusal) → InStep kept.texts kept.managed.machine → Keeps kept change (refused kept.managed refusal)
refusal_keeps kept None refusal h = h
refusal_keeps kept (Some change) refusal h = h

answered_keeps : (kept : Kept) (r : Result (List ℕ) Refusal) → InStep kept.texts kept.managed.machine → Keeps kept None (answered kept.managed r)
answered_keeps kept (Ok lines) h = h
answered_keeps kept (Err refusal) h = h

-- an accepted change drops the texts that could be redone, and puts one behind the others
one_more : (texts : List (List ℕ)) (text : List ℕ) (machine : Machine (List Loaded)) (set : List Loaded) → length texts ≡ length machine.earlier + length machine.later
    → length (take (length machine.earlier) texts ++ text ∷ []) ≡ length (accepted machine set).earlier + length (accepted machine set).later
one_more texts text machine set h =
    let front : length (take (length machine.earlier) texts) ≡ length machine.earlier = length-take-le (length machine.earlier) texts (omega (arith, h)) in
    let left = length-append (take (length machine.earlier) texts) (text ∷ []) in
    let right = length-append machine.earlier (machine.now ∷ []) in
    omega (arith, front, left, right)

change_keeps : StepsMarkTheirSets (List Loaded) → (kept : Kept) (change : PolicyChange) (size : ℕ) (r : Result (List Loaded) Refusal) → InStep kept.texts kept.managed.machine
    → Keeps kept (Some change) (changed kept.managed (after_change kept.managed size r))
change_keeps marks kept change size (Ok set) h = (one_more kept.texts (change_text change) kept.managed.machine set h.0, marks kept.managed.machine (Accept set ∷ []) h.1)
change_keeps marks kept change size (Err refusal) h = h

undone_keeps : LengthsAfterBack (List Loaded) → StepsMarkTheirSets (List Loaded) → (kept : Kept) (n : ℕ) → InStep kept.texts kept.managed.machine
    → Keeps kept None (changed kept.managed (undone n kept.managed))
undone_keeps lengths marks kept n h = by (can_go_back n kept.managed.machine) refl (marks kept.managed.machine (UndoStep n ∷ []) h.1)
  where
    by : (t : Bool) → can_go_back n kept.managed.machine ≡ t → MarksItsSets (cond t (gone_back n kept.managed.machine) kept.managed.machine)
        → Keeps kept None (changed kept.managed (cond t (Ok (record kept.managed { machine = gone_back n kept.managed.machine })) (Err (plain NothingToUndo))))
    by true e marked = let both = lengths n kept.managed.machine e in (omega (arith, h.0, both.0, both.1), marked)
    by false e marked = h

redone_keeps : LengthsAfterOn (List Loaded) → StepsMarkTheirSets (List Loaded) → (kept : Kept) (n : ℕ) → InStep kept.texts kept.managed.machine
    → Keeps kept None (changed kept.managed (redone n kept.managed))
redone_keeps lengths marks kept n h = by (can_go_on n kept.managed.machine) refl (marks kept.managed.machine (RedoStep n ∷ []) h.1)
  where
    by : (t : Bool) → can_go_on n kept.managed.machine ≡ t → MarksItsSets (cond t (gone_on n kept.managed.machine) kept.managed.machine)
        → Keeps kept None (changed kept.managed (cond t (Ok (record kept.managed { machine = gone_on n kept.managed.machine })) (Err (plain NothingToRedo))))
    by true e marked = let both = lengths n kept.managed.machine e in (omega (arith, h.0, both.0, both.1), marked)
    by false e marked = h

mark_keeps : StepsMarkTheirSets (List Loaded) → (kept : Kept) (name : List ℕ) → InStep kept.texts kept.managed.machine → Keeps kept None (changed kept.managed (marking name kept.managed))
mark_keeps marks kept name h = by (is_mark_name name)
  where
    by : (t : Bool) → Keeps kept None (changed kept.managed (cond t (Ok (record kept.managed { machine = with_mark name kept.managed.machine })) (Err (plain BadRequest))))
    by true = (h.0, marks kept.managed.machine (MarkStep name ∷ []) h.1)
    by false = h

back_keeps : MarkKeepsAll (List Loaded) → StepsMarkTheirSets (List Loaded) → (kept : Kept) (name : List ℕ) → InStep kept.texts kept.managed.machine
    → Keeps kept None (changed kept.managed (back_at name kept.managed))
back_keeps keep marks kept name h = by (is_marked name kept.managed.machine)
  where
    before : Machine (List Loaded)
    before = kept.managed.machine

    after : Machine (List Loaded)
    after = gone_to_mark name kept.managed.machine

    by : (t : Bool) → Keeps kept None (changed kept.managed (cond t (Ok (record kept.managed { machine = gone_to_mark name kept.managed.machine })) (Err (plain NoMark))))
    by true =
        let all = ap length (keep name kept.managed.machine h.1).0 in
        let left = length-append (gone_to_mark name kept.managed.machine).earlier
        ((gone_to_mark name kept.managed.machine).now ∷ (gone_to_mark name kept.managed.machine).later) in
        let right = length-append kept.managed.machine.earlier (kept.managed.machine.now ∷ kept.managed.machine.later) in
        (omega (arith, h.0, all, left, right), marks kept.managed.machine (Return name ∷ []) h.1)
    by false = h

-- the laws of machines that are needed
pub record Known : Type 0 where
  pub back : LengthsAfterBack (List Loaded)
  pub on : LengthsAfterOn (List Loaded)
  pub keep : MarkKeepsAll (List Loaded)
  pub marks : StepsMarkTheirSets (List Loaded)

flag_keeps : (files : List File) (kept : Kept) (flag : Bool) (command : Command) (change : Option PolicyChange) → InStep kept.texts kept.managed.machine
    → Keeps kept change (obeyed files kept.managed command)
    → Keeps kept change (cond (flag && takes_memory kept.managed command) (refused kept.managed (plain Memory)) (obeyed files kept.managed command))
flag_keeps files kept flag command change h p =
    either_keeps (flag && takes_memory kept.managed command) kept change (refused kept.managed (plain Memory)) (obeyed files kept.managed command)
    (refusal_keeps kept change (plain Memory) h) p

pub command_keeps : Known → (files : List File) (kept : Kept) (flag : Bool) (command : Result (Option Command) Refusal) → InStep kept.texts kept.managed.machine
    → Keeps kept (change_in command) (command_outcome files kept.managed flag command)
command_keeps known files kept flag (Err refusal) h = h
command_keeps known files kept flag (Ok None) h = h
command_keeps known files kept flag (Ok (Some (Make change))) h =
    flag_keeps files kept flag (Make change) (Some change) h
    (change_keeps known.marks kept change (parts_of files kept.managed.settings change) (change_of_set files kept.managed.settings kept.managed.machine.now change) h)
command_keeps known files kept flag (Ok (Some (Undo n))) h = flag_keeps files kept flag (Undo n) None h (undone_keeps known.back known.marks kept n h)
command_keeps known files kept flag (Ok (Some (Redo n))) h = flag_keeps files kept flag (Redo n) None h (redone_keeps known.on known.marks kept n h)
command_keeps known files kept flag (Ok (Some (Mark name))) h = flag_keeps files kept flag (Mark name) None h (mark_keeps known.marks kept name h)
command_keeps known files kept flag (Ok (Some (Back name))) h = flag_keeps files kept flag (Back name) None h (back_keeps known.keep known.marks kept name h)
command_keeps known files kept flag (Ok (Some (Ask question))) h =
    flag_keeps files kept flag (Ask question) None h (answered_keeps kept (reply_lines kept.managed.machine.now question) h)
command_keeps known files kept flag (Ok (Some Listed)) h = flag_keeps files kept flag Listed None h (answered_keeps kept (Ok (list_lines kept.managed.machine.now)) h)
command_keeps known files kept flag (Ok (Some (Show name))) h =
    flag_keeps files kept flag (Show name) None h (answered_keeps kept (shown kept.managed.machine.now name) h)

-- a line for the machine leaves a session in step
machine_keeps : Known → (files : List File) (kept : Kept) (line : List ℕ) (flag : Bool) → InStep kept.texts kept.managed.machine
    → Keeps kept (change_in (command_in line)) (line_outcome files kept.managed line flag)
machine_keeps known files kept line flag h =
    either_keeps (leb (length line) longest_line) kept (change_in (command_in line)) (command_outcome files kept.managed flag (command_in line))
    (refused kept.managed (plain LineTooLong)) (command_keeps known files kept flag (command_in line) h) (refusal_keeps kept (change_in (command_in line)) (plain LineTooLong) h)

-- also where the session refuses what it undoes
pub line_keeps : Known → (files : List File) (kept : Kept) (line : List ℕ) (flag : Bool) → InStep kept.texts kept.managed.machine
    → Keeps kept (change_in (command_in line)) (line_obeyed files kept.loaded kept.managed line flag)
line_keeps known files kept line flag h =
    either_keeps (undoes_more (undoable kept.loaded kept.managed) line) kept (change_in (command_in line)) (refused kept.managed (plain NothingToUndo))
    (line_outcome files kept.managed line flag) (refusal_keeps kept (change_in (command_in line)) (plain NothingToUndo) h)
    (machine_keeps known files kept line flag h)

-- the first so many of two lists of one length have one length
take_alike : {A B : Type 0} (n : ℕ) (xs : List A) (ys : List B) → length xs ≡ length ys → length (take n xs) ≡ length (take n ys)
take_alike zero xs ys h = refl
take_alike (suc n) [] [] h = refl
take_alike (suc n) (x ∷ xs) (y ∷ ys) h = let behind : length xs ≡ length ys = omega (arith, h) in ap suc (take_alike n xs ys behind)
take_alike (suc n) [] (y ∷ ys) h = absurd (cc)
take_alike (suc n) (x ∷ xs) [] h = absurd (cc)

-- so have two that are kept with one more
kept_alike : {A B : Type 0} (done : ℕ) (x : A) (y : B) (reply : Reply) (xs : List A) (ys : List B) → length xs ≡ length ys
    → length (kept_with done x reply xs) ≡ length (kept_with done y reply ys)
kept_alike done x y Done xs ys h =
    let front = take_alike done xs ys h in
    let left = length-append (take done xs) (x ∷ []) in
    let right = length-append (take done ys) (y ∷ []) in
    omega (arith, front, left, right)
kept_alike done x y Silent xs ys h = h
kept_alike done x y (Refused refusal) xs ys h = h
kept_alike done x y (Answered lines) xs ys h = h

-- it is kept of as many changes where profiles were read as there are texts
pub known_keeps : (language : Language) (files : List File) (done : ℕ) (change : Option PolicyChange) (reply : Reply) (texts : List (List ℕ)) (origins : List (List Origin))
    → length origins ≡ length texts → length (origins_behind language files done change reply origins) ≡ length (texts_behind done change reply texts)
known_keeps language files done None reply texts origins h = h
known_keeps language files done (Some change) reply texts origins h = kept_alike done (change_origins language files change) (change_text change) reply origins texts h
