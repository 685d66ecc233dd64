use Rattle.aa_explain.proofs.NamedLemmas.{named-asker-is}
use Rattle.aa_explain.proofs.alike.who_has_a_full_name.Goals as goal

pub returns : goal.returns
returns c = named-asker-is
