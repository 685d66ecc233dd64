-- The laws of a session.
use Rattle.std.proofs.Common.{◌≡◌, ◌∙◌, ℕ, Bool, true, false, ◌&&◌, List, [], Option, None, Some, Result, Ok, inl, inr, refl, subst, sym, ap, cond, length, map}
use Rattle.std.specs.Prelude.{nat_le}
use Rattle.std.proofs.lemmas.Bool.{true≢false}
use Rattle.std.proofs.lemmas.List.{length-map}
use Rattle.aa_decide_ready.specs.Entries.{Loaded}
use Rattle.aa_history.specs.MarkLaws.{StartedMarksItsSets}
use Rattle.aa_profile_parsing.specs.declared.language.Language.{Language}
use Rattle.aa_set.specs.Laws.{RefusedLineLeavesAll}
use Rattle.aa_set_manager.specs.Outcomes.{Outcome as Obeyed, command_in, command_outcome as machine_outcome, line_outcome, obeyed, refused as left_as}
use Rattle.aa_set.specs.Reply.{is_refusal}
use Rattle.aa_set_manager.specs.declared.reply.Reply.{Reply}
use Rattle.aa_set_manager.specs.declared.reply.Reply.TheVariants.{Answered, Done, Refused, Silent}
use Rattle.aa_set_commands.specs.Command.{Add, Command as Order, Complain, Disable as DisableChange, Make, PolicyChange}
use Rattle.aa_set_commands.specs.Refusal.{plain}
use Rattle.aa_set_commands.specs.declared.refusal.Refusal.{Refusal}
use Rattle.aa_set_commands.specs.declared.refusal.RefusalKind.TheVariants.{LineTooLong, NothingToUndo}
use Rattle.aa_set_commands.specs.Limits.{longest_line}
use Rattle.aa_text_files.specs.Files.{File}
use Rattle.aatry_policy.specs.declared.origins.Origin.{Origin}
use Rattle.aatry_session_told.specs.Commands.{change_in, is_above, undo_count, undoes_more}
use Rattle.aatry_session.specs.Laws.{AddLeavesInStep, AddsAsLinesDo, AddsInStep, BeginsInStep, ForgetsInStep, IsInStep, LeavesInStep, RefusedTurnLeavesAll, StaysInStep, SwitchesInStep}
use Rattle.aatry_session.specs.Origins.{unplaced_origin}
use Rattle.aatry_session_told.specs.Sayings.{Command, Help, History, NoQuestion, Quit, Reload, Saying, Status, Widen, Why, saying_in}
use Rattle.aatry_folder.specs.declared.loading.Loading.TheVariants.{ByFlags, Disable, ForceComplain}
use Rattle.aatry_session.specs.Switching.{kept_by}
use Rattle.aatry_session.specs.Turns.{Kept, command_outcome, depth, file_added, kept_after, line_obeyed, origins_behind, said_outcome, texts_behind, undoable}
use Rattle.aatry_session.proofs.StepLemmas.{Keeps, Known, command_keeps, known_keeps, line_keeps}

pub begins : StartedMarksItsSets (List Loaded) → BeginsInStep
begins started language force_complain = record { counted = refl; known = refl; marked = started [] }

-- what the machine made of a command leaves a session in step
in_step : (files : List File) (kept : Kept) (change : Option PolicyChange) (obeyed : Obeyed) → IsInStep kept → Keeps kept change obeyed
    → IsInStep (kept_after files kept change obeyed)
in_step files kept change obeyed h after = record {
  counted = after.0;
  known = known_keeps kept.managed.settings.language files (depth kept.managed) change obeyed.reply kept.texts kept.origins h.known;
  marked = after.1;
}

pub stays : Known → StaysInStep
stays known files base words kept line flag h = by (saying_in line)
  where
    by : (saying : Saying) → IsInStep (said_outcome files base words kept line flag saying).kept
    by Command =
        in_step files kept (change_in (command_in line)) (line_obeyed files kept.loaded kept.managed line flag) h
        (line_keeps known files kept line flag (h.counted, h.marked))
    by Help = h
    by History = h
    by Widen = h
    by Quit = h
    by Reload = h
    by Status = h
    by (Why question) = h
    by (NoQuestion fault) = h

pub leaves : Known → LeavesInStep
leaves known files before after line left h = elim left [
  | inl same ↦ subst IsInStep (sym same) h
  | inr obeyed ↦ subst IsInStep (sym obeyed.1) (stays known files [] [] before line obeyed.0 h)
]

pub adds : Known → AddsInStep
adds known files base kept name flag h =
    in_step files kept (Some (Add name)) (file_added files kept.managed name flag) h
    (command_keeps known files kept flag (Ok (Some (Make (Add name)))) (h.counted, h.marked))

made-change : Known → (kept : Kept) (change : PolicyChange) → IsInStep kept → IsInStep (kept_by kept change)
made-change known kept change h =
    in_step [] kept (Some change) (obeyed [] kept.managed (Make change)) h
    (command_keeps known [] kept false (Ok (Some (Make change))) (h.counted, h.marked))

pub switches : Known → SwitchesInStep
switches known ByFlags kept name h = h
switches known ForceComplain kept name h = made-change known kept (Complain name) h
switches known Disable kept name h = made-change known kept (DisableChange name) h

pub leaves_adding : Known → AddLeavesInStep
leaves_adding known files before after name left h = elim left [
  | inl same ↦ subst IsInStep (sym same) h
  | inr obeyed ↦ subst IsInStep (sym obeyed.1) (adds known files [] before name obeyed.0 h)
]

pub forgets : ForgetsInStep
forgets kept h = record { counted = h.counted; known = length-map kept.origins (map unplaced_origin) ∙ h.known; marked = h.marked }

-- a line that makes the change is obeyed as the change
pub as_lines : AddsAsLinesDo
as_lines files base words kept name line flag said short is =
    let obeyed : Bool → Result (Option Order) Refusal → Obeyed =
    λ fits command. cond (fits && is_above (undoable kept.loaded kept.managed) (undo_count command)) (left_as kept.managed (plain NothingToUndo))
    (cond fits (machine_outcome files kept.managed flag command) (left_as kept.managed (plain LineTooLong))) in
    ap (said_outcome files base words kept line flag) said
    ∙ ap (λ command. command_outcome files base kept (change_in command) (obeyed (nat_le (length line) longest_line) command)) is
    ∙ ap (λ fits. command_outcome files base kept (Some (Add name)) (obeyed fits (Ok (Some (Make (Add name)))))) short

-- a refused line leaves the texts, and where profiles were read
texts_stay : (done : ℕ) (change : Option PolicyChange) (reply : Reply) (texts : List (List ℕ)) → is_refusal reply ≡ true → texts_behind done change reply texts ≡ texts
texts_stay done None reply texts h = refl
texts_stay done (Some change) Silent texts h = refl
texts_stay done (Some change) Done texts h = absurd (true≢false (sym h))
texts_stay done (Some change) (Refused refusal) texts h = refl
texts_stay done (Some change) (Answered lines) texts h = refl

origins_stay : (language : Language) (files : List File) (done : ℕ) (change : Option PolicyChange) (reply : Reply) (origins : List (List Origin)) → is_refusal reply ≡ true
    → origins_behind language files done change reply origins ≡ origins
origins_stay language files done None reply origins h = refl
origins_stay language files done (Some change) Silent origins h = refl
origins_stay language files done (Some change) Done origins h = absurd (true≢false (sym h))
origins_stay language files done (Some change) (Refused refusal) origins h = refl
origins_stay language files done (Some change) (Answered lines) origins h = refl

-- so does whatever the machine made of it that is a refusal
refusal_stays : (files : List File) (kept : Kept) (change : Option PolicyChange) (obeyed : Obeyed) → obeyed.managed ≡ kept.managed → is_refusal obeyed.reply ≡ true
    → kept_after files kept change obeyed ≡ kept
refusal_stays files kept change obeyed same h =
    let after = kept_after files kept change obeyed in
    ap (λ managed. record { managed = managed; texts = after.texts; origins = after.origins; loaded = kept.loaded }) same
    ∙ ap (λ texts. record { managed = kept.managed; texts = texts; origins = after.origins; loaded = kept.loaded })
    (texts_stay (depth kept.managed) change obeyed.reply kept.texts h)
    ∙ ap (λ origins. record { managed = kept.managed; texts = kept.texts; origins = origins; loaded = kept.loaded })
    (origins_stay kept.managed.settings.language files (depth kept.managed) change obeyed.reply kept.origins h)

pub refused : RefusedLineLeavesAll → RefusedTurnLeavesAll
refused leaves files base words kept line flag h = by (saying_in line)
  where
    change : Option PolicyChange
    change = change_in (command_in line)

    either : (more : Bool)
        → kept_after files kept change (cond more (left_as kept.managed (plain NothingToUndo)) (line_outcome files kept.managed line flag)) ≡ kept
    either true = refusal_stays files kept change (left_as kept.managed (plain NothingToUndo)) refl refl
    either false = refusal_stays files kept change (line_outcome files kept.managed line flag) (leaves files kept.managed line flag h) h

    by : (saying : Saying) → (said_outcome files base words kept line flag saying).kept ≡ kept
    by Command = either (undoes_more (undoable kept.loaded kept.managed) line)
    by Help = refl
    by History = refl
    by Widen = refl
    by Quit = refl
    by Reload = refl
    by Status = refl
    by (Why question) = refl
    by (NoQuestion fault) = refl
