use Rattle.aa_profile_parsing.proofs.KeptLemmas.{all-kept}
use Rattle.aa_profile_parsing.proofs.laws.which_flags_are_kept.Goals as goal

pub returns : goal.returns
returns c = all-kept
