use Rattle.aa_glob.proofs.ReachLemmas.{reaches-matches, reaches-reads}
use Rattle.aa_glob.proofs.graph_laws.what_reaches_a_state.Goals as goal

pub returns-clause-reaching_is_reading : goal.returns-clause-reaching_is_reading
returns-clause-reaching_is_reading c = reaches-reads c.how_trails_are_read.ensures.trails_are_read_behind_sources c.how_trails_are_read.ensures.some_are_read_as_one_is c.how_trails_are_read.ensures.sources_are_shorter

pub returns-clause-reaching_the_end_is_matching : goal.returns-clause-reaching_the_end_is_matching
returns-clause-reaching_the_end_is_matching c =
    reaches-matches c.how_trails_are_read.ensures.trails_are_read_behind_sources c.how_trails_are_read.ensures.some_are_read_as_one_is c.how_trails_are_read.ensures.sources_are_shorter c.what_reads_to_the_end_matches.ensures
