use Rattle.aatry_why.proofs.AskerLemmas.{own-rules}
use Rattle.aatry_why.proofs.laws.which_rules_why_tells.Goals as goal

pub returns : goal.returns
returns c = own-rules c.where_loaded_profiles_are_read.ensures.by_name c.where_loaded_rules_are_written.ensures.of_profiles
