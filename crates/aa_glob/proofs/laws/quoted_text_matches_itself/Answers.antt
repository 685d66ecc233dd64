use Rattle.aa_glob.proofs.MatchingLaws.{matches-quoted}
use Rattle.aa_glob.proofs.laws.quoted_text_matches_itself.Goals as goal

pub returns : goal.returns
returns c = matches-quoted c.matching_is_by_splits.ensures
