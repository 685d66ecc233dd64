-- Under what programs run that are started from each other, beginning with those that someone starts.
use Rattle.std.specs.Prelude.{◌≡◌, ◌⊎◌, ℕ, ◌<◌, ◌≤◌, Bool, false, List, AllPairs, Contains, Option, None, Some, length, slice_get}
use Rattle.aa_decide.specs.Exec.{Asker, Started}
use Rattle.aa_decide.specs.SeenExec.{seen_to}
use Rattle.aa_decide_ready.specs.Entries.{Loaded}
use Rattle.aa_decide_ready.specs.Slots.{filled}
use Rattle.aa_explain_reach.specs.Patterns.{start_patterns}
use Rattle.aa_explain_reach.specs.Places.{same_to}
use Rattle.aa_explain_reach.specs.Starts.{IsStart, LeadsTo}
use Rattle.aa_glob_paths.specs.TooMany.{AreMoreTextsThan}
use Rattle.aa_explain_reach.specs.Starters.{starters_at}
use Rattle.aa_explain_reach.specs.declared.reached.Reached.{Reached}

-- this one starts programs from a node of a number, or from no node: then it is who starts the first of all
abbrev pub IsStarterOf : List (Option Loaded) → Option Asker → List Reached → Option ℕ → Option Asker → Type 0
IsStarterOf slots who nodes None starter = starter ≡ who
IsStarterOf slots who nodes (Some number) starter =
    (node : Reached) × (slice_get nodes number ≡ Some node) × Contains (starters_at slots node.start.to) starter

-- a node, or none, stands before a number
abbrev pub IsBefore : Option ℕ → ℕ → Type 0
IsBefore None number = Unit {0}
IsBefore (Some own) number = own < number

-- A node is reached: one who starts programs from an earlier one, or who starts the first of all, starts one that runs
-- there, by its path.
pub record IsReached (slots : List (Option Loaded)) (who : Option Asker) (nodes : List Reached) (number : ℕ) (node : Reached) : Type 0 where
  pub before : IsBefore node.from number
  pub starter : Option Asker
  pub is_starter : IsStarterOf slots who nodes node.from starter
  pub is_start : IsStart slots starter node.start

-- no two nodes are the same place
abbrev pub AreApart : List Reached → Type 0
AreApart nodes = AllPairs (λ one later. same_to one.start.to later.start.to ≡ false) nodes

-- one of some nodes is this place
abbrev pub HasNode : List (Option Loaded) → List Reached → Started → Type 0
HasNode slots nodes to = (node : Reached) × Contains nodes node × (seen_to slots node.start.to ≡ Some to)

-- wherever a start by someone leads, one of some nodes is that place
abbrev pub LeadsAmong : List (Option Loaded) → List Reached → Option Asker → Type 0
LeadsAmong slots nodes starter =
    (path : List ℕ) (owned : Bool) (to : Started) → LeadsTo (filled slots) starter owned path to → HasNode slots nodes to

-- someone starts programs from there whose paths are too many to be told of all
pub record HasTooMany (slots : List (Option Loaded)) (who : Option Asker) (limit : ℕ) (nodes : List Reached) (from : Option ℕ) : Type 0 where
  pub starter : Option Asker
  pub is_starter : IsStarterOf slots who nodes from starter
  pub too_many : AreMoreTextsThan (start_patterns (filled slots) starter) limit

-- The first so many nodes were gone on from, and who starts the first of all: wherever these lead is among the nodes,
-- but where it isn't known, which is told. Each node is reached, no two are the same place, and where it isn't known
-- there are too many paths.
pub record AreReached (slots : List (Option Loaded)) (who : Option Asker) (limit : ℕ) (nodes : List Reached) (unknown : List (Option ℕ)) (left : ℕ) : Type 0 where
  pub each_node : (number : ℕ) (node : Reached) → slice_get nodes number ≡ Some node → IsReached slots who nodes number node
  pub gone_on : (from : Option ℕ) (starter : Option Asker) → IsBefore from left → IsStarterOf slots who nodes from starter
      → Contains unknown from ⊎ LeadsAmong slots nodes starter
  pub too_many : (from : Option ℕ) → Contains unknown from → HasTooMany slots who limit nodes from
  pub apart : AreApart nodes
  pub within : left ≤ length nodes
