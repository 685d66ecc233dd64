-- How the states of an automaton, the tree in which they are found and the numbers of elements stand for the beginnings of patterns.
use Rattle.std.specs.Prelude.{◌≡◌, ℕ, ◌<◌, List, ◌∷◌, length, map, Some}
use Rattle.std.specs.List.{All}
use Rattle.aa_glob.specs.Numbers.{most_number, number_of}
use Rattle.aa_glob.specs.Walks.{OpenStates, Standing}
use Rattle.aa_glob.specs.Drawn.{trail_at}
use Rattle.aa_glob_syntax.specs.Elements.{Element}
use Rattle.aa_glob_pattern.specs.Trails.{groups_of, Trail, TrailGroup}
use Rattle.aa_glob.specs.Tree.{Ways, next, places}

-- the group that is open where these states stand for these trails
abbrev pub group_at : List Trail → OpenStates → TrailGroup
group_at trails g = record { beginning = trail_at trails g.beginning; ends = map (trail_at trails) g.ends }

-- the states of an open group exist
abbrev pub IsThere : ℕ → OpenStates → Type 0
IsThere states g = (g.beginning < states) × All (λ q. q < states) g.ends

-- a walk has come to the state of a trail, and the groups that are open there are the trail's
pub record StandsAt (trails : List Trail) (walk : Standing) (trail : Trail) : Type 0 where
  pub there : walk.state < length trails
  pub here : trail_at trails walk.state ≡ trail
  pub groups_there : All (IsThere (length trails)) walk.groups
  pub groups : map (group_at trails) walk.groups ≡ groups_of trail

-- In the tree each state is found from that of the trail before its own, by the number of its last element, and no other is.
pub record Finds (ways : Ways) (keys : List (List ℕ)) (trails : List Trail) : Type 0 where
  pub places : places ways ≡ length trails
  pub found : (p n q : ℕ) → n < most_number → next ways p n ≡ Some q
      → (e : Element) × (number_of keys e ≡ Some n) × (p < length trails) × (q < length trails) × (trail_at trails q ≡ e ∷ trail_at trails p)
  pub all : (q : ℕ) (e : Element) (trail : Trail) → q < length trails → trail_at trails q ≡ e ∷ trail
      → (p n : ℕ) × (p < length trails) × (trail_at trails p ≡ trail) × (n < most_number) × (number_of keys e ≡ Some n) × (next ways p n ≡ Some q)

-- these trails, and maybe more after them
pub record GoesOn (trails more : List Trail) : Type 0 where
  pub longer : (q : ℕ) → q < length trails → q < length more
  pub same : (q : ℕ) → q < length trails → trail_at more q ≡ trail_at trails q
