use Rattle.aa_profile.proofs.PlaceLemmas.{read-made}
use Rattle.aa_profile.proofs.laws.where_rules_are_made.Goals as goal

pub returns : goal.returns
returns c = read-made
