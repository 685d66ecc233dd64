use Rattle.aa_glob_syntax.proofs.BitLemmas.{bits-top}
use Rattle.aa_glob_syntax.proofs.bits.BitStack.top.Goals as goal

pub returns : goal.returns
returns c = bits-top c.self.inside.len c.self.inside.bits c.args.self c.self.view_is c.requires
