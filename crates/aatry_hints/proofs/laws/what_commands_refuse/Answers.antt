use Rattle.aatry_hints.proofs.LawLemmas.{all-refuse}
use Rattle.aatry_hints.proofs.laws.what_commands_refuse.Goals as goal

pub returns : goal.returns
returns c = all-refuse
