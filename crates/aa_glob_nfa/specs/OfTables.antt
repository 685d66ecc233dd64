-- The graph that the tables stand for.
use Rattle.std.specs.List.Sorted.{IsNonDecreasingBy}
use Rattle.aa_glob_nfa.specs.Graphs.{Graph}
use Rattle.aa_glob_nfa.specs.code.Blocks.{AreFirsts}
use Rattle.aa_glob_nfa.specs.Tables.{graph_in, IsSound, order_of}
use Rattle.aa_glob_nfa.specs.declared.tables.Tables.{Tables}

-- the graph of tables
abbrev pub graph_of : Tables → Graph
graph_of t = graph_in t.states t.ways.items t.classes.items t.ends.items

-- what holds of all tables of a graph
abbrev pub AreSound : Tables → Type 0
AreSound t = IsSound t.states t.ways.items t.classes.items t.ends.items

-- the tables of ways and ends are sorted, and for each block of states it is known where its ways begin, so that what belongs to a state is found at
-- once
pub record AreSorted (t : Tables) : Type 0 where
  pub ways : IsNonDecreasingBy order_of t.ways.items
  pub firsts : AreFirsts t.ways.items t.firsts.items
  pub ends : IsNonDecreasingBy (λ e. e.state) t.ends.items
