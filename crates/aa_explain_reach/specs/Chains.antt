-- Chains of starts: what is started from what is started.
use Rattle.std.specs.Prelude.{◌≡◌, ◌⊎◌, ℕ, zero, suc, ◌≤◌, Bool, List, [], Contains, Option, Some, length}
use Rattle.aa_decide.specs.Exec.{Asker, Started, Unconfined}
use Rattle.aa_decide.specs.SeenExec.{seen_to}
use Rattle.aa_decide_ready.specs.Entries.{Loaded}
use Rattle.aa_decide_ready.specs.Slots.{filled}
use Rattle.aa_explain_reach.specs.Starts.{LeadsTo}
use Rattle.aa_explain_reach.specs.Reach.{AreReached, HasNode}
use Rattle.aa_explain_reach.specs.Starters.{starters}
use Rattle.aa_explain_reach.specs.declared.reached.Reached.{Reached}

-- some start by someone leads there
abbrev pub SomeLeadsTo : List Loaded → Option Asker → Started → Type 0
SomeLeadsTo entries asker to = (path : List ℕ) × (owned : Bool) × LeadsTo entries asker owned path to

-- a chain of so many starts at most, of which someone starts the first, ends there
abbrev pub Ends : List Loaded → Option Asker → ℕ → Started → Type 0
Ends entries who zero to = ⊥
Ends entries who (suc more) to =
    SomeLeadsTo entries who to
    ⊎ ((from : Started) × Ends entries who more from × (starter : Option Asker) × Contains (starters entries from) starter × SomeLeadsTo entries starter to)

-- Each node is where some chain of starts ends.
abbrev pub NodesEndChains : Type 0
NodesEndChains =
    (slots : List (Option Loaded)) (who : Option Asker) (limit : ℕ) (nodes : List Reached) (unknown : List (Option ℕ)) (left : ℕ)
    → AreReached slots who limit nodes unknown left
    → (node : Reached) → Contains nodes node
    → (starts : ℕ) × (to : Started) × (seen_to slots node.start.to ≡ Some to) × Ends (filled slots) who starts to

-- Where all nodes were gone on from, and it is known of each where that leads, each chain of starts ends at one of
-- them.
abbrev pub ChainsEndAtNodes : Type 0
ChainsEndAtNodes =
    (slots : List (Option Loaded)) (who : Option Asker) (limit : ℕ) (nodes : List Reached) (left : ℕ)
    → AreReached slots who limit nodes [] left → length nodes ≤ left
    → (starts : ℕ) (to : Started) → Ends (filled slots) who starts to → HasNode slots nodes to

-- So where none of them is unconfined, no program that is started so runs unconfined.
abbrev pub NoneRunsUnconfined : Type 0
NoneRunsUnconfined =
    (slots : List (Option Loaded)) (who : Option Asker) (limit : ℕ) (nodes : List Reached) (left : ℕ)
    → AreReached slots who limit nodes [] left → length nodes ≤ left
    → ((node : Reached) → Contains nodes node → seen_to slots node.start.to ≡ Some Unconfined → ⊥)
    → (starts : ℕ) → Ends (filled slots) who starts Unconfined → ⊥
