-- How far back a session over a folder of policy goes.
use Rattle.std.proofs.Common.{◌≡◌, ◌∙◌, ℕ, Bool, true, false, List, [], ◌∷◌, Option, None, Some, Result, inl, inr, ap, refl, subst, sym}
use Rattle.aa_profile.specs.FileReading.{file_profiles_in}
use Rattle.aa_profile_parsing.specs.declared.language.Language.{Language}
use Rattle.aa_text_files.specs.Files.{File}
use Rattle.aa_start.specs.Known.{Known}
use Rattle.aatry_folder.specs.Loadings.{TopFile}
use Rattle.aatry_folder.specs.Told.{ToldFolders}
use Rattle.aatry_folder.specs.declared.loading.Loading.{Loading}
use Rattle.aatry_policy.specs.Policies.{profile_names}
use Rattle.aatry_session.specs.Laws.{AddsInStep, BeginsInStep, ForgetsInStep, IsInStep, StaysInStep, SwitchesInStep}
use Rattle.aatry_session.specs.LoadingLaws.{AddsUnmarked, BeginsBehind, BeginsUnmarked, ForgetsBehind, IsBehind, IsUnmarked, StaysBehind, SwitchesUnmarked, UndoesToTheLoaded as KeptUndoesToTheLoaded}
use Rattle.aatry_session.specs.Switching.{all_switched, kept_switched}
use Rattle.aatry_session.specs.Turns.{Anew, Answer, Asked, Compared, Ended, Kept, Outcome, Told, Widened, add_outcome, begun, history_begun, said_outcome, turn_outcome, unplaced}
use Rattle.aatry_session_told.specs.Sayings.{Command, Help, History, NoQuestion, Quit, Reload, Saying, Status, Why, Widen, saying_in}
use Rattle.aatry_session_run.specs.Session.{Answers, IsLoaded, IsReadAnew, IsTold, IsTurn, LoadsEach, Standing, State, at_first_line, is_taken, settled}
use Rattle.aatry_session_run.specs.Undoing.{AreWithoutLoading, UndoesToTheLoaded}

-- what is known of sessions
pub record Laws : Type 0 where
  pub begins : BeginsInStep
  pub stays : StaysInStep
  pub adds : AddsInStep
  pub switches : SwitchesInStep
  pub forgets : ForgetsInStep
  pub unmarked : BeginsUnmarked
  pub adds_unmarked : AddsUnmarked
  pub switches_unmarked : SwitchesUnmarked
  pub begins_behind : BeginsBehind
  pub stays_behind : StaysBehind
  pub forgets_behind : ForgetsBehind
  pub undoes : KeptUndoesToTheLoaded

-- a session that loads files is in step and marks nothing
abbrev IsLoading : Kept → Type 0
IsLoading kept = IsInStep kept × IsUnmarked kept

switched_so : Laws → (way : Loading) (kept : Kept) (names : List (List ℕ)) → IsLoading kept → IsLoading (all_switched way kept names)
switched_so laws way kept [] h = h
switched_so laws way kept (name ∷ names) h =
    switched_so laws way (kept_switched way kept name) names (laws.switches way kept name h.0, laws.switches_unmarked way kept name h.1)

settled_so : Laws → (language : Language) (files : List File) (file : TopFile) (taken : Bool) (kept : Kept) → IsLoading kept
    → IsLoading (settled language files file taken kept)
settled_so laws language files file true kept h = switched_so laws file.loading kept (profile_names (file_profiles_in language files file.name)) h
settled_so laws language files file false kept h = h

loads_so : Laws → (language : Language) (files : List File) (base : List ℕ) (before : Kept) (top : List TopFile) (after : Kept) (text : List ℕ)
    → LoadsEach language files base before top after text → IsLoading before → IsLoading after
loads_so laws language files base before [] after text loads h = subst IsLoading (sym loads.0) h
loads_so laws language files base before (file ∷ top) after text (next, first, rest, put, one, behind) h =
    let (answer, added, flag, is, after_it, told) = one in
    let own : added ≡ (add_outcome files base before file.name flag).kept = ap (λ (o : Outcome). o.kept) is in
    let so : IsLoading added =
    subst IsLoading (sym own) (laws.adds files base before file.name flag h.0, laws.adds_unmarked files base before file.name flag h.1) in
    loads_so laws language files base next top after rest behind
    (subst IsLoading (sym after_it) (settled_so laws language files file (is_taken answer) added so))

-- a session that has answered lines is in step, and behind what was loaded
abbrev IsOn : Kept → Kept → Type 0
IsOn first kept = IsInStep kept × IsBehind first.managed.machine kept

-- it is so where a folder was loaded
begins_on : Laws → (language : Language) (folders : ToldFolders) (known : Known) (base : List ℕ) (state : State) (text : List ℕ)
    → IsLoaded language folders known base state text → IsOn state.kept state.kept
begins_on laws language folders known base state text loaded =
    let so = loads_so laws language state.files base (begun language false) loaded.top loaded.loaded text loaded.each (laws.begins language false, laws.unmarked language false) in
    subst (λ (kept : Kept). IsOn kept kept) (sym loaded.begins)
    (record { counted = so.0.counted; known = so.0.known; marked = so.0.marked }, laws.begins_behind loaded.loaded so.1)

-- what a line says that has the changes of the loading in the history
widened_by : (files : List File) (base words : List ℕ) (kept : Kept) (line : List ℕ) (flag : Bool) (saying : Saying)
    → (said_outcome files base words kept line flag saying).answer ≡ Widened → saying ≡ Widen
widened_by files base words kept line flag Command is = absurd (cc)
widened_by files base words kept line flag Help is = absurd (cc)
widened_by files base words kept line flag History is = absurd (cc)
widened_by files base words kept line flag Widen is = refl
widened_by files base words kept line flag Quit is = absurd (cc)
widened_by files base words kept line flag Reload is = absurd (cc)
widened_by files base words kept line flag Status is = absurd (cc)
widened_by files base words kept line flag (Why question) is = absurd (cc)
widened_by files base words kept line flag (NoQuestion fault) is = absurd (cc)

-- what is told of an answer leaves it so, but that the history leaves out nothing any more
told_on : Laws → (loaded : Kept) (folders : ToldFolders) (known : Known) (base : List ℕ) (state : State) (answer : Answer) (after : State) (text : List ℕ)
    → IsTold folders known base state answer after text → (answer ≡ Widened → ⊥) → IsOn loaded state.kept → IsOn loaded after.kept
told_on laws loaded folders known base state (Told told) after text is other h = subst (λ (s : State). IsOn loaded s.kept) (sym is.0) h
told_on laws loaded folders known base state Ended after text is other h = subst (λ (s : State). IsOn loaded s.kept) (sym is.0) h
told_on laws loaded folders known base state Anew after text is other h = by is
  where
    by : IsReadAnew folders known base state after text → IsOn loaded after.kept
    by (inl anew) = subst (IsOn loaded) (sym anew.1) (laws.forgets state.kept h.0, laws.forgets_behind loaded.managed.machine state.kept h.1)
    by (inr same) = subst (λ (s : State). IsOn loaded s.kept) (sym same.0) h
told_on laws loaded folders known base state Compared after text is other h = subst (λ (s : State). IsOn loaded s.kept) (sym is.0) h
told_on laws loaded folders known base state Widened after text is other h = absurd (other refl)
told_on laws loaded folders known base state (Asked question) after text is other h = subst (λ (s : State). IsOn loaded s.kept) (sym is.0) h

-- so does a line
turned_on : Laws → (loaded : Kept) (folders : ToldFolders) (known : Known) (base : List ℕ) (before : State) (line : List ℕ) (after : State) (text : List ℕ) (goes : Bool)
    → IsTurn folders known base before line after text goes → (saying_in line ≡ Widen → ⊥) → IsOn loaded before.kept → IsOn loaded after.kept
turned_on laws loaded folders known base before line after text goes (answer, kept, flag, words, told, note, is, on, tells, notes, put) other h =
    let own : kept ≡ (turn_outcome before.files base words before.kept line flag).kept = ap (λ (o : Outcome). o.kept) is in
    let so : IsOn loaded kept = subst (IsOn loaded) (sym own) (
      laws.stays before.files base words before.kept line flag h.0,
      laws.stays_behind loaded.managed.machine before.files base words before.kept line flag h.0 h.1,
    ) in
    told_on laws loaded folders known base (record { files = before.files; kept = kept }) answer after told tells
    (λ widens. other (widened_by before.files base words before.kept line flag (saying_in line) (sym (ap (λ (o : Outcome). o.answer) is) ∙ widens))) so

-- and each of some lines
answers_on : Laws → (loaded : Kept) (folders : ToldFolders) (known : Known) (base prompt : List ℕ) (first : Standing) (lines : List (List ℕ)) (now : Standing)
    → Answers folders known base prompt first lines now → AreWithoutLoading lines → IsOn loaded first.state.kept → IsOn loaded now.state.kept
answers_on laws loaded folders known base prompt first [] now answered others h = subst (λ (s : Standing). IsOn loaded s.state.kept) (sym answered) h
answers_on laws loaded folders known base prompt first (line ∷ lines) now (before, so_far, step) others h =
    turned_on laws loaded folders known base before.state line now.state step.0 true step.4 others.0
    (answers_on laws loaded folders known base prompt first lines before so_far others.1 h)

pub undoes : Laws → (folders : ToldFolders) (known : Known) → UndoesToTheLoaded folders known
undoes laws folders known language base prompt text left written state lines now loaded answered others =
    let on =
    answers_on laws state.kept folders known base prompt (at_first_line left written state) lines now answered others
    (begins_on laws language folders known base state text loaded) in
    laws.undoes state.kept.managed.machine now.state.kept on.1
