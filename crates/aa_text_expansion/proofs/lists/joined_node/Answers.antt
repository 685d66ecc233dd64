use Rattle.std.proofs.Common.{sym, ap, arith, ◌∙◌}
use Rattle.aa_text_expansion.specs.Joining.{joined}
use Rattle.aa_text_expansion.specs.Lists.{list_at}
use Rattle.aa_text_expansion.specs.code.Made.{listed, lists_of}
use Rattle.aa_text_expansion.proofs.JoiningLemmas.{joined-none}
use Rattle.aa_text_expansion.proofs.MadeLemmas.{joined-right, no-texts-at}
use Rattle.aa_text_expansion.proofs.lists.joined_node.Goals as goal

pub returns-clause-right : goal.returns-clause-right
returns-clause-right c =
    joined-right c.args.nodes.now c.requires c.args.first c.args.second c.in-Some.a.now c.in-Some-node_at.b.now (sym c.in-Some.ensures) (sym c.in-Some-node_at.ensures)
    c.are_single.result c.saturating_add.result c.are_single.ensures (omega arith)

pub returns-in_default-clause-right : goal.returns-in_default-clause-right
returns-in_default-clause-right c = (c.nothing.ensures (listed c.args.nodes.now)).0

pub returns-in_default-node_at-clause-right : goal.returns-in_default-node_at-clause-right
returns-in_default-node_at-clause-right c = (c.nothing-in_default-node_at.ensures (listed c.args.nodes.now)).0

pub returns-in_default-clause-texts : goal.returns-in_default-clause-texts
returns-in_default-clause-texts c =
    (c.nothing.ensures (listed c.args.nodes.now)).1 ∙ ap (λ texts. joined texts (list_at (lists_of c.args.nodes.now) c.args.second)) (sym (no-texts-at c.args.nodes.now c.args.first (sym c.in_default.ensures)))

pub returns-in_default-node_at-clause-texts : goal.returns-in_default-node_at-clause-texts
returns-in_default-node_at-clause-texts c =
    (c.nothing-in_default-node_at.ensures (listed c.args.nodes.now)).1
    ∙ sym (ap (joined (list_at (lists_of c.args.nodes.now) c.args.first)) (no-texts-at c.args.nodes.now c.args.second (sym c.in_default-node_at.ensures)) ∙ joined-none (list_at (lists_of c.args.nodes.now) c.args.first))
