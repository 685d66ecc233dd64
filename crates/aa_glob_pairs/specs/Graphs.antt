-- A graph that is run twice along one text.
use Rattle.std.specs.Prelude.{◌≡◌, ◌↔◌, ◌⊎◌, ℕ, ◌^◌, ◌<◌, Contains, List, length, slice_index_or}
use Rattle.aa_glob_nfa.specs.Graphs.{AreBytes, EndsAt, Graph, IsFree, Leads, Reaches, Stays, Takes}
use Rattle.aa_glob_pairs.specs.Below.{Covers, Includes}
use Rattle.aa_glob_pairs.specs.Nodes.{HasStep}
use Rattle.aa_glob_pairs.specs.declared.below.Below.{Below}
use Rattle.aa_glob_pairs.specs.declared.below.Below.TheVariants.{Nothing}
use Rattle.aa_glob_pairs.specs.declared.ends.Ending.{Ending}
use Rattle.aa_glob_pairs.specs.declared.moves.Moves.{Moves}
use Rattle.aa_glob_pairs.specs.declared.nodes.Node.{Node}

-- one text of bytes, written with its last byte first, reaches both states
abbrev pub ReachTogether : Graph → ℕ → ℕ → Type 0
ReachTogether g q r = (past : List ℕ) × AreBytes past × Reaches g past q × Reaches g past r

-- the class of a pattern, by its place
abbrev pub class_at : List ℕ → ℕ → ℕ
class_at classes pattern = slice_index_or classes pattern 0

-- A pattern clashes with an earlier one: their classes differ, and one text reaches ends of both.
pub record ClashesAt (g : Graph) (classes : List ℕ) (pattern : ℕ) : Type 0 where
  pub other : ℕ
  pub earlier : other < pattern
  pub classes_differ : class_at classes other ≡ class_at classes pattern → ⊥
  pub first : ℕ
  pub second : ℕ
  pub first_ends : EndsAt g first other
  pub second_ends : EndsAt g second pattern
  pub reached : ReachTogether g first second

-- a graph has a start, and its ways lead to states of it that come later
pub record IsLaid (g : Graph) : Type 0 where
  pub some : 0 < length g.entries
  pub within : (q r : ℕ) → Leads g q r → r < length g.entries
  pub later : (q r : ℕ) → Leads g q r → q < r

-- a state is entered from another without a byte
abbrev pub GoesFreely : Graph → ℕ → ℕ → Type 0
GoesFreely g q x = Leads g q x × IsFree g x

-- a byte leads from a state into another, or stays in it
abbrev pub Goes : Graph → ℕ → ℕ → ℕ → Type 0
Goes g c q x = (Leads g q x × Takes g x c) ⊎ ((x ≡ q) × Stays g q c)

-- these are the moves of a state
pub record AreMoves (g : Graph) (q : ℕ) (m : Moves) : Type 0 where
  pub free : (x : ℕ) → (Contains m.free.items x ↔ GoesFreely g q x)
  pub steps : (c x : ℕ) → c < 2 ^ 8 → (HasStep m.steps.items c x ↔ Goes g c q x)

-- these are the patterns that end at a state, with their classes
abbrev pub AreEndingsOf : Graph → List ℕ → ℕ → List Ending → Type 0
AreEndingsOf g classes q endings = (e : Ending) → (Contains endings e ↔ (EndsAt g q e.pattern × (e.class ≡ class_at classes e.pattern)))

-- These are the classes below a state, by those below the states to which it leads: they cover the patterns that end there, and include the classes
-- below each of these states.
pub record IsBelowAt (g : Graph) (classes : List ℕ) (belows : List Below) (q : ℕ) (below : Below) : Type 0 where
  pub own : (p : ℕ) → EndsAt g q p → Covers below (class_at classes p)
  pub on : (x : ℕ) → Leads g q x → Includes below (slice_index_or belows x Nothing)

-- these are the classes below all states
pub record AreBelow (g : Graph) (classes : List ℕ) (belows : List Below) : Type 0 where
  pub count : length belows ≡ length g.entries
  pub each : (q : ℕ) → q < length g.entries → IsBelowAt g classes belows q (slice_index_or belows q Nothing)

-- a node is this state's
pub record IsNodeOf (g : Graph) (classes : List ℕ) (q : ℕ) (n : Node) : Type 0 where
  pub moves : AreMoves g q n.moves
  pub ends : AreEndingsOf g classes q n.ends.items
