use Rattle.aa_glob.proofs.MatchingLaws.{no_zero-matches}
use Rattle.aa_glob.proofs.laws.no_text_with_a_zero_byte_matches.Goals as goal

pub returns : goal.returns
returns c = no_zero-matches c.matching_is_by_splits.ensures
