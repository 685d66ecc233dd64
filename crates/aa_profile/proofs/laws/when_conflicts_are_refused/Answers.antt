use Rattle.aa_profile.proofs.AgreeLemmas.{conflicts-refused}
use Rattle.aa_profile.proofs.laws.when_conflicts_are_refused.Goals as goal

pub returns : goal.returns
returns c = conflicts-refused c.how_conflicts_are_tested.ensures.agree_is_exact
