use Rattle.aa_glob.proofs.MatchingLaws.{matches-exact}
use Rattle.aa_glob.proofs.laws.exact_pattern_matches_one_text.Goals as goal

pub returns : goal.returns
returns c = matches-exact c.matching_is_by_splits.ensures
