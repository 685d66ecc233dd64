-- How the states, the tree and the numbers of an automaton stand for the beginnings of patterns while it grows.
use Rattle.std.specs.Prelude.{◌≡◌, ℕ, ◌+◌, ◌<◌, List, ◌∷◌, length}
use Rattle.aa_glob.specs.Automata.{EndWhole}
use Rattle.aa_glob.specs.Grown.{Finds, StandsAt}
use Rattle.aa_glob.specs.Walks.{Standing, source_states}
use Rattle.aa_glob.specs.declared.growing.Growing.{Growing}
use Rattle.aa_glob.specs.Drawn.{AddsState, IsDrawn, Suits, trail_at}
use Rattle.aa_glob_syntax.specs.Elements.{Element}
use Rattle.aa_glob_nfa.specs.declared.entry.Entry.{Entry}
use Rattle.aa_glob_pattern.specs.Beginnings.{Begun}
use Rattle.aa_glob_pattern.specs.Trails.{Trail}
use Rattle.aa_glob.specs.Tree.{HasOneMore, places}

-- what has grown stands for these trails: the beginnings of patterns, and those of a trail to which another pattern has led so far
pub record IsGrowing (patterns : List (List ℕ)) (trail : Trail) (g : Growing) (trails : List Trail) : Type 0 where
  pub drawn : IsDrawn g.drawing trails
  pub finds : Finds g.tree g.numbers trails
  pub begun : Begun patterns trail trails
  pub ends : EndWhole g.drawing trails patterns

-- a walk has come to the trail to which another pattern has led so far
pub record Follows (patterns : List (List ℕ)) (trail : Trail) (g : Growing) (walk : Standing) : Type 0 where
  pub trails : List Trail
  pub growing : IsGrowing patterns trail g trails
  pub stands : StandsAt trails walk trail

-- the walk stands for some patterns and some trail
abbrev pub IsWalked : Growing → Standing → Type 0
IsWalked g walk = (patterns : List (List ℕ)) × (trail : Trail) × Follows patterns trail g walk

-- the walk is at a trail still, and a state is that of the trail to which an element leads
pub record FollowsTo (patterns : List (List ℕ)) (e : Element) (trail : Trail) (g : Growing) (walk : Standing) (state : ℕ) : Type 0 where
  pub trails : List Trail
  pub growing : IsGrowing patterns (e ∷ trail) g trails
  pub stands : StandsAt trails walk trail
  pub there : state < length trails
  pub is : trail_at trails state ≡ e ∷ trail

-- an element leads from where a walk is to a state
abbrev pub LeadsTo : Growing → Standing → Element → Growing → ℕ → Type 0
LeadsTo old walk e new state =
    (patterns : List (List ℕ)) (trail : Trail) → Follows patterns trail old walk → FollowsTo patterns e trail new walk state

-- a walk follows an element
abbrev pub GoesOver : Growing → Standing → Element → Growing → Standing → Type 0
GoesOver old before e new after =
    (patterns : List (List ℕ)) (trail : Trail) → Follows patterns trail old before → Follows patterns (e ∷ trail) new after

-- one more state, for an element after where a walk is, which is found from there by a number
pub record GrowsBy (old : Growing) (walk : Standing) (e : Element) (number : ℕ) (new : Growing) : Type 0 where
  pub entry : Entry
  pub suits : Suits e entry
  pub adds : AddsState old.drawing new.drawing entry (source_states e walk)
  pub ends : new.drawing.ends ≡ old.drawing.ends
  pub more : HasOneMore old.tree walk.state number new.tree
  pub place : places old.tree ≡ length old.drawing.entries
  pub places_more : places new.tree ≡ places old.tree + 1
  pub numbers : new.numbers ≡ old.numbers
