use Rattle.std.proofs.Common.{◌∙◌, ap, length, sym}
use Rattle.aa_glob_syntax.specs.BitLaws.{length-bits}
use Rattle.aa_glob_syntax.proofs.bits.BitStack.len.Goals as goal

pub returns : goal.returns
returns c = sym (length-bits c.self.inside.len c.self.inside.bits) ∙ ap length c.self.view_is
