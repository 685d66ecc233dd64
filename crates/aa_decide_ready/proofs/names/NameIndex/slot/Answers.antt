use Rattle.std.proofs.Common.{◌∙◌}
use Rattle.aa_decide_ready.proofs.names.NameIndex.slot.Goals as goal

pub returns : goal.returns
returns c = λ slots is. c.get.ensures ∙ is c.args.name.now
