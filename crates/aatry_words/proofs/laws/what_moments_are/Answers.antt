use Rattle.aatry_words.proofs.MomentLemmas.{are_moments, are_seconds}
use Rattle.aatry_words.proofs.laws.what_moments_are.Goals as goal

pub returns-clause-is : goal.returns-clause-is
returns-clause-is c = are_moments

pub returns-clause-seconds : goal.returns-clause-seconds
returns-clause-seconds c = are_seconds
