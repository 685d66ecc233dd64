-- Where the starts of programs lead, over all paths.
use Rattle.std.specs.Prelude.{◌≡◌, ℕ, ◌≤◌, Bool, true, false, List, [], ◌∷◌, length, All, AllPairs, Contains, Option, Some}
use Rattle.aa_decide.specs.Exec.{Asker, Started, exec_answer}
use Rattle.aa_decide.specs.SeenExec.{seen_to}
use Rattle.aa_decide_ready.specs.Entries.{Loaded}
use Rattle.aa_decide_ready.specs.Slots.{filled}
use Rattle.aa_explain_paths.specs.Meant.{is_meant}
use Rattle.aa_glob_nfa.specs.Graphs.{AreBytes}
use Rattle.aa_explain_reach.specs.Patterns.{every_pattern}
use Rattle.aa_explain_reach.specs.Places.{is_somewhere, same_to}
use Rattle.aa_explain_reach.specs.declared.start.Start.{Start}

-- a path of bytes that is absolute and that the kernel may ask about
pub record MayStart (path : List ℕ) : Type 0 where
  pub bytes : AreBytes path
  pub meant : is_meant (every_pattern ∷ []) path ≡ true

-- under what the program of a path runs
abbrev pub place_to_go : List Loaded → Option Asker → Bool → List ℕ → Started
place_to_go entries asker owned path = (exec_answer entries asker owned path).to

-- the start of the program of such a path leads somewhere, namely there
pub record LeadsTo (entries : List Loaded) (asker : Option Asker) (owned : Bool) (path : List ℕ) (to : Started) : Type 0 where
  pub may : MayStart path
  pub there : place_to_go entries asker owned path ≡ to
  pub somewhere : is_somewhere to ≡ true

-- a start is one, and leads where it tells
pub record IsStart (slots : List (Option Loaded)) (asker : Option Asker) (start : Start) : Type 0 where
  pub to : Started
  pub seen : seen_to slots start.to ≡ Some to
  pub leads : LeadsTo (filled slots) asker start.owned start.path.items to

-- one of some starts leads there, and its path is no longer than this one
pub record HasStart (slots : List (Option Loaded)) (starts : List Start) (path : List ℕ) (to : Started) : Type 0 where
  pub start : Start
  pub among : Contains starts start
  pub seen : seen_to slots start.to ≡ Some to
  pub no_longer : length start.path.items ≤ length path

-- no two go to the same place
abbrev pub LeadApart : List Start → Type 0
LeadApart starts = AllPairs (λ one later. same_to one.to later.to ≡ false) starts

-- These are the starts of programs by who asks, over all paths: each is one; wherever the start of a program leads,
-- one of them does, whose path is no longer; and no two go to the same place.
pub record AreStartsOf (slots : List (Option Loaded)) (asker : Option Asker) (starts : List Start) : Type 0 where
  pub each_start : All (IsStart slots asker) starts
  pub each_place : (path : List ℕ) (owned : Bool) (to : Started) → LeadsTo (filled slots) asker owned path to → HasStart slots starts path to
  pub apart : LeadApart starts
