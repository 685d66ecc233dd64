use Rattle.aa_set_manager.proofs.NameLemmas.{changes-keep}
use Rattle.aa_set_manager.proofs.laws.what_changes_keep.Goals as goal

pub returns : goal.returns
returns c = changes-keep c.how_profiles_are_named.ensures.no_two_profiles_have_one_name
