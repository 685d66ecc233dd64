use Rattle.std.proofs.Common.{◌∙◌, ap, true}
use Rattle.aa_glob_syntax.specs.OpenGroups.{with_innermost}
use Rattle.aa_glob_syntax.proofs.BitLemmas.{bits-set}
use Rattle.aa_glob_syntax.proofs.bits.BitStack.with_top_set.Goals as goal

pub returns : goal.returns
returns c = bits-set c.self.inside.len c.self.inside.bits c.if-self-eq1.false ∙ ap (with_innermost (λ top. true)) c.self.view_is
