-- Definitions for the law on undoing: how far back a session over a folder of policy goes.
use Rattle.std.specs.Prelude.{◌≢◌, ℕ, List, Option}
use Rattle.std.specs.List.{AllByRecursion}
use Rattle.aa_profile_parsing.specs.declared.language.Language.{Language}
use Rattle.aa_start.specs.Known.{Known}
use Rattle.aatry_folder.specs.Told.{ToldFolders}
use Rattle.aatry_session.specs.LoadingLaws.{UndoesTo}
use Rattle.aatry_session_run.specs.Session.{Answers, IsLoaded, Standing, State, at_first_line}
use Rattle.aatry_session_told.specs.Sayings.{Widen, saying_in}

-- none of these lines includes the changes of the loading in the history
abbrev pub AreWithoutLoading : List (List ℕ) → Type 0
AreWithoutLoading lines = AllByRecursion (λ line. saying_in line ≢ Widen) lines

-- After a folder was loaded, and whatever lines were answered except `loading`, undoing as many changes as the session lets undo leads to the very
-- policy set that was loaded.
abbrev pub UndoesToTheLoaded : ToldFolders → Known → Type 0
UndoesToTheLoaded folders known =
    (language : Language) (base prompt text : List ℕ) (left written : Option (List ℕ)) (state : State) (lines : List (List ℕ)) (now : Standing)
    → IsLoaded language folders known base state text
    → Answers folders known base prompt (at_first_line left written state) lines now
    → AreWithoutLoading lines
    → UndoesTo state.kept.managed.machine now.state.kept
