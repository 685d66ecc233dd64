use Rattle.aa_text_expansion.specs.code.Made.{listed}
use Rattle.aa_text_expansion.proofs.lists.Lists.nothing.Goals as goal

pub push-requires-clause-node : goal.push-requires-clause-node
push-requires-clause-node c = (c.nothing.ensures (listed c.self.inside.nodes.items)).0
