-- How far a pass over the states that are live at a place has come: what a visit needs and does, and which states were visited.
use Rattle.std.specs.Prelude.{◌≡◌, ℕ, ◌<◌, ◌≤◌, true, List, ◌∷◌, ◌++◌, length, All, Contains, Option, Some, None, slice_get}
use Rattle.aa_glob_nfa.specs.Entries.{is_free, takes_if}
use Rattle.aa_glob_nfa.specs.Graphs.{Graph, entry_of}
use Rattle.aa_glob_nfa.specs.OfTables.{AreSorted, AreSound}
use Rattle.aa_glob_nfa.specs.declared.tables.Tables.{Tables}
use Rattle.aa_glob_nfa.specs.Fronts.{Live}
use Rattle.aa_glob_nfa.specs.Runs.{AreReached, Follows, IsEntered}

-- states of a kind were appended to a list, so that it has all of them, and no others were
pub record Adds (old new : Live) (Kind : ℕ → Type 0) : Type 0 where
  pub room : new.room ≡ old.room
  pub more : List ℕ
  pub longer : new.states ≡ old.states ++ more
  pub only : All Kind more
  pub each : (r : ℕ) → Kind r → Contains new.states r

-- of the states of a kind, those that are entered without a byte were added to a list, and those that are entered by the byte, if there is one, to
-- the next list
pub record Enters (g : Graph) (byte : Option ℕ) (Kind : ℕ → Type 0) (here here_now next next_now : Live) : Type 0 where
  pub freely : Adds here here_now (λ r. Kind r × (is_free (entry_of g r) ≡ true))
  pub by_it : Adds next next_now (λ r. Kind r × (takes_if byte (entry_of g r) ≡ true))

-- what a visit needs: tables that are sound and sorted, and lists that have room for all states
pub record IsReady (t : Tables) (here next : Live) : Type 0 where
  pub sound : AreSound t
  pub sorted : AreSorted t
  pub room : here.room ≡ length t.states
  pub next_room : next.room ≡ length t.states

-- a state follows by a byte, if there is one
abbrev pub FollowsIf : Graph → Option ℕ → ℕ → ℕ → Type 0
FollowsIf g None q r = ⊥
FollowsIf g (Some c) q r = Follows g c q r

-- what the first states of a list lead to without a byte is in the list
abbrev pub IsClosedUpTo : Graph → ℕ → List ℕ → Type 0
IsClosedUpTo g count live = (k q r : ℕ) → k < count → slice_get live k ≡ Some q → IsEntered g is_free q r → Contains live r

-- what follows from the first states of a list is in another list
abbrev pub IsFollowedUpTo : Graph → Option ℕ → ℕ → List ℕ → List ℕ → Type 0
IsFollowedUpTo g byte count live next = (k q r : ℕ) → k < count → slice_get live k ≡ Some q → FollowsIf g byte q r → Contains next r

-- the first of the states that are live at a place were visited: what they lead to without a byte comes after them, and what follows is in the next
-- list
pub record IsPassing (g : Graph) (byte : Option ℕ) (count : ℕ) (old here next : Live) : Type 0 where
  pub within : count ≤ length here.states
  pub room : here.room ≡ old.room
  pub next_room : next.room ≡ old.room
  pub longer : length old.states ≤ length here.states
  pub keeps : (r : ℕ) → Contains old.states r → Contains here.states r
  pub closed : IsClosedUpTo g count here.states
  pub followed : IsFollowedUpTo g byte count here.states next.states
  pub reached : (past : List ℕ) → AreReached g past old.states → AreReached g past here.states
  pub brought : (past : List ℕ) (c : ℕ) → byte ≡ Some c → AreReached g past old.states → AreReached g (c ∷ past) next.states
