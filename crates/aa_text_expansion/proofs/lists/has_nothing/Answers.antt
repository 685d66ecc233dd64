use Rattle.std.proofs.Common.{sym, ◌∙◌}
use Rattle.aa_text_expansion.proofs.MadeLemmas.{nothing-at}
use Rattle.aa_text_expansion.proofs.lists.has_nothing.Goals as goal

pub returns-in-Some : goal.returns-in-Some
returns-in-Some c = λ is. nothing-at c.args.nodes.now c.requires c.args.number c.in-Some.node.now (sym c.in-Some.ensures) (sym c.is_nothing.ensures ∙ is)
