use Rattle.aatry_log_globs.proofs.FrontLemmas.{front-taken}
use Rattle.aatry_log_globs.proofs.MatchLemmas.{matches-expanded, matches-offered}
use Rattle.aatry_log_globs.proofs.laws.what_is_offered_is_wider.Goals as goal

pub returns-clause-paths_match : goal.returns-clause-paths_match
returns-clause-paths_match c = matches-expanded c.matching_is_by_splits.ensures

pub returns-clause-without_variables : goal.returns-clause-without_variables
returns-clause-without_variables c = matches-offered c.matching_is_by_splits.ensures

pub returns-clause-variables_stand_for_the_beginning : goal.returns-clause-variables_stand_for_the_beginning
returns-clause-variables_stand_for_the_beginning c = front-taken
