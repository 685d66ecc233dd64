use Rattle.aa_glob.proofs.StepLemmas.{drawn-added, drawn-same, drawn-start}
use Rattle.aa_glob.proofs.graph_laws.how_graphs_are_drawn.Goals as goal

pub returns-clause-start_is_drawn : goal.returns-clause-start_is_drawn
returns-clause-start_is_drawn c = drawn-start

pub returns-clause-added_is_drawn : goal.returns-clause-added_is_drawn
returns-clause-added_is_drawn c = drawn-added c.how_trails_are_read.ensures.sources_are_shorter

pub returns-clause-same_is_drawn : goal.returns-clause-same_is_drawn
returns-clause-same_is_drawn c = drawn-same
