use Rattle.aa_glob_pattern.proofs.OverlapLemmas.{overlaps-tested}
use Rattle.aa_glob_pattern.proofs.laws.how_overlaps_are_tested.Goals as goal

pub returns : goal.returns
returns c =
    overlaps-tested c.how_trails_are_read.ensures.trails_are_read_behind_sources c.how_trails_are_read.ensures.some_are_read_as_one_is c.how_trails_are_read.ensures.sources_are_shorter c.what_reads_to_the_end_matches.ensures
