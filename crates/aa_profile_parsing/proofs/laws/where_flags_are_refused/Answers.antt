use Rattle.aa_profile_parsing.proofs.FlagRefusalLemmas.{faults-are_the_first}
use Rattle.aa_profile_parsing.proofs.laws.where_flags_are_refused.Goals as goal

pub returns : goal.returns
returns c = faults-are_the_first
