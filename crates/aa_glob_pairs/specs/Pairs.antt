-- The pairs of states that one text reaches, as far as patterns of different classes may end after them.
use Rattle.std.specs.Prelude.{◌≡◌, ◌⊎◌, ℕ, ◌^◌, ◌<◌, true, List, length, slice_index_or}
use Rattle.aa_glob_nfa.specs.Graphs.{EndsAt, Graph}
use Rattle.aa_glob_nfa.specs.OfTables.{AreSorted, AreSound, graph_of}
use Rattle.aa_glob_nfa.specs.declared.tables.Tables.{Tables}
use Rattle.aa_glob_pairs.specs.Below.{can_clash}
use Rattle.aa_glob_pairs.specs.Graphs.{AreBelow, class_at, Goes, GoesFreely, IsLaid}
use Rattle.aa_glob_pairs.specs.declared.below.Below.{Below}
use Rattle.aa_glob_pairs.specs.declared.below.Below.TheVariants.{Nothing}

-- A graph, the classes of its patterns, and the classes below its states.
pub record Classed : Type 0 where
  pub graph : Graph
  pub classes : List ℕ
  pub belows : List Below

-- the graph of some tables, with these classes
abbrev pub classed : Tables → List ℕ → List Below → Classed
classed tables classes belows = record { graph = graph_of tables; classes = classes; belows = belows }

abbrev pub states_of : Classed → ℕ
states_of g = length g.graph.entries

-- some pattern after one state may clash with one after another
abbrev pub MayClash : Classed → ℕ → ℕ → Type 0
MayClash g q r = can_clash (slice_index_or g.belows q Nothing) (slice_index_or g.belows r Nothing) ≡ true

-- a pair follows from another in the graph: one state moves without a byte and the other stays, or both move by one byte
abbrev pub GoTogether : Graph → ℕ → ℕ → ℕ → ℕ → Type 0
GoTogether g q r x y =
    (GoesFreely g q x × (y ≡ r)) ⊎ (((x ≡ q) × GoesFreely g r y) ⊎ ((c : ℕ) × (c < 2 ^ 8) × Goes g c q x × Goes g c r y))

-- A pair follows from another. What follows from a pair after whose states no patterns clash doesn't matter.
abbrev pub Follows : Classed → ℕ → ℕ → ℕ → ℕ → Type 0
Follows g q r x y = (q < states_of g) × (r < states_of g) × MayClash g q r × GoTogether g.graph q r x y

-- The pairs that are met: the start with itself, and what follows from pairs that are met.
pub data Met (g : Classed) : ℕ → ℕ → Type 0 where
  start : Met g 0 0
  goes : {q r x y : ℕ} → Met g q r → Follows g q r x y → Met g x y

-- a pattern that ends at the second state of a pair clashes with an earlier one that ends at the first
abbrev pub ClashOf : Classed → ℕ → ℕ → ℕ → Type 0
ClashOf g q r pattern =
    (other : ℕ) × EndsAt g.graph q other × EndsAt g.graph r pattern × (class_at g.classes other ≡ class_at g.classes pattern → ⊥) × (other < pattern)

-- such a clash at a pair that is met
abbrev pub MeetsAt : Classed → ℕ → Type 0
MeetsAt g pattern = (q r : ℕ) × Met g q r × ClashOf g q r pattern

-- tables are sound and sorted, and there is a class for each pattern that ends somewhere
pub record AreClassed (t : Tables) (classes : List ℕ) : Type 0 where
  pub sound : AreSound t
  pub sorted : AreSorted t
  pub each_pattern : (q p : ℕ) → EndsAt (graph_of t) q p → p < length classes

-- what looking at pairs needs: tables with classes, whose ways lead to later states, and the classes below each state
pub record AreReady (t : Tables) (classes : List ℕ) (belows : List Below) : Type 0 where
  pub classed : AreClassed t classes
  pub later : IsLaid (graph_of t)
  pub each_below : AreBelow (graph_of t) classes belows
