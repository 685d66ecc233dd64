use Rattle.aatry_words.proofs.NearLemmas.{nearest_is}
use Rattle.aatry_words.proofs.near_laws.which_name_is_nearest.Goals as goal

pub returns : goal.returns
returns c = nearest_is
