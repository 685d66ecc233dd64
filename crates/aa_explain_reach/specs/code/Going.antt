-- Nodes that are added to others.
use Rattle.std.specs.Prelude.{◌≡◌, ◌⊎◌, ℕ, Bool, List, ◌++◌, map, Contains, Option, IfSome}
use Rattle.std.specs.List.{list_any}
use Rattle.std.specs.Option.{option_map}
use Rattle.aa_decide.specs.Exec.{Asker}
use Rattle.aa_decide.specs.SeenExec.{IsIn, seen_asker, seen_to}
use Rattle.aa_decide.specs.declared.asker.Asker.{Asker as FoundAsker}
use Rattle.aa_decide_rules.specs.declared.exec_verdict.ExecTo.{ExecTo}
use Rattle.aa_decide_ready.specs.Entries.{Loaded}
use Rattle.aa_decide_ready.specs.Slots.{filled}
use Rattle.aa_explain_reach.specs.Patterns.{start_patterns}
use Rattle.aa_explain_reach.specs.Places.{same_to}
use Rattle.aa_explain_reach.specs.Starts.{IsStart}
use Rattle.aa_explain_reach.specs.declared.start.Start.{Start}
use Rattle.aa_glob_paths.specs.TooMany.{AreMoreTextsThan}
use Rattle.aa_explain_reach.specs.Reach.{AreApart, LeadsAmong}
use Rattle.aa_explain_reach.specs.declared.reached.Reached.{Reached}

-- those who start programs, as the code has them
abbrev pub seen_starters : List (Option FoundAsker) → List (Option Asker)
seen_starters starters = map (option_map seen_asker) starters

-- the slot of each holds its entry
abbrev pub AreIn : List (Option Loaded) → List (Option FoundAsker) → Type 0
AreIn slots starters = (starter : Option FoundAsker) → Contains starters starter → IfSome starter (IsIn slots)

-- these were appended to others
pub record Appends (slots : List (Option Loaded)) (more : List (Option Asker)) (old new : List (Option FoundAsker)) : Type 0 where
  pub appended : seen_starters new ≡ seen_starters old ++ more
  pub there : AreIn slots old → AreIn slots new

-- one of some nodes is this place
abbrev pub has_node : ExecTo → List Reached → Bool
has_node to nodes = list_any (λ node. same_to node.start.to to) nodes

-- the places of some starts were added to others, as far as they weren't there
pub record AddsNodes (from : Option ℕ) (starts : List Start) (old new : List Reached) : Type 0 where
  pub fresh : List Reached
  pub appended : new ≡ old ++ fresh
  pub each : (node : Reached) → Contains fresh node → (node.from ≡ from) × Contains starts node.start
  pub told : (start : Start) → Contains starts start
      → (node : Reached) × Contains new node × ((slots : List (Option Loaded)) → seen_to slots node.start.to ≡ seen_to slots start.to)
  pub apart : AreApart old → AreApart new

-- Starts by some were gone on to: their places were added to the nodes, as far as they weren't there, or it was told
-- that they are too many.
pub record GoesOn (slots : List (Option Loaded)) (limit : ℕ) (from : Option ℕ) (starters : List (Option Asker))
    (old new : List Reached) (unknown told : List (Option ℕ)) : Type 0 where
  pub fresh : List Reached
  pub appended : new ≡ old ++ fresh
  pub each : (node : Reached) → Contains fresh node
      → (node.from ≡ from) × (starter : Option Asker) × Contains starters starter × IsStart slots starter node.start
  pub kept : (number : Option ℕ) → Contains unknown number → Contains told number
  pub too_many : (number : Option ℕ) → Contains told number
      → Contains unknown number
      ⊎ ((number ≡ from) × (starter : Option Asker) × Contains starters starter × AreMoreTextsThan (start_patterns (filled slots) starter) limit)
  pub gone_on : (starter : Option Asker) → Contains starters starter → Contains told from ⊎ LeadsAmong slots new starter
  pub apart : AreApart old → AreApart new
