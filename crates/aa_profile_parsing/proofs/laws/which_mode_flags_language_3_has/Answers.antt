use Rattle.aa_profile_parsing.proofs.NarrowLemmas.{flags-narrow}
use Rattle.aa_profile_parsing.proofs.laws.which_mode_flags_language_3_has.Goals as goal

pub returns : goal.returns
returns c = flags-narrow
