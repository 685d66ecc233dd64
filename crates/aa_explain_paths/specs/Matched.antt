-- Rules, and which of them match a path, as the code holds them.
use Rattle.std.specs.List.Sorted.{IsStrictlyIncreasing}
use Rattle.aa_profile_data.specs.Matching.{AreMatchingRules}
use Rattle.aa_explain_paths.specs.declared.matched.MatchedRules.{MatchedRules}

-- the indexes are those of the rules that match, in rising order
pub record AreMatched (matched : MatchedRules) : Type 0 where
  pub found : AreMatchingRules matched.rules.now matched.path.now matched.places.now
  pub rise : IsStrictlyIncreasing matched.places.now
