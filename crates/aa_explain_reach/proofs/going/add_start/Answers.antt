use Rattle.std.proofs.Common.{◌≡◌, ◌∙◌, ap, false, refl, sym, true}
use Rattle.aa_explain_reach.specs.code.Going.{has_node}
use Rattle.aa_explain_reach.proofs.GoingLemmas.{adds-known, adds-new}
use Rattle.aa_explain_reach.proofs.going.add_start.Goals as goal

pub returns-then-has_node : goal.returns-then-has_node
returns-then-has_node c =
    let some : has_node c.args.start.to c.args.nodes.now.items ≡ true =
    ap (has_node c.args.start.to) (sym c.deref.ensures.value) ∙ sym c.has_node.ensures ∙ c.if-has_node.true in
    adds-known c.args.from c.args.start c.args.nodes.now.items some

pub returns : goal.returns
returns c =
    let none : has_node c.args.start.to c.args.nodes.now.items ≡ false =
    ap (has_node c.args.start.to) (sym c.deref.ensures.value) ∙ sym c.has_node.ensures ∙ c.if-has_node.false in
    adds-new c.args.from c.args.start c.args.nodes.now.items c.push.new.self.items (record { from = c.args.from; start = c.args.start }) none refl refl
    c.in_ok-push.ensures.items
