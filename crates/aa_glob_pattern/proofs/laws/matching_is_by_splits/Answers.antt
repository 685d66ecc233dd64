use Rattle.aa_glob_pattern.proofs.MatchingLemmas.{Decides-matches}
use Rattle.aa_glob_pattern.proofs.laws.matching_is_by_splits.Goals as goal

pub returns : goal.returns
returns c = Decides-matches
