use Rattle.std.proofs.Common.{◌≡◌, [], ◌∷◌, ◌++◌, length, subst, sym, ◌∙◌}
use Rattle.aa_text_expansion.specs.code.Made.{AreRight, listed, lists_of, of_node}
use Rattle.aa_text_expansion.specs.Lists.{IsMade}
use Rattle.aa_text_expansion.proofs.MadeLemmas.{made-pushed, right-pushed}
use Rattle.aa_text_expansion.proofs.lists.push.Goals as goal

pub returns-clause-right : goal.returns-clause-right
returns-clause-right c = subst AreRight (sym c.in_ok-push.ensures.items) (right-pushed [] c.args.nodes.now.items c.args.node c.requires.right c.requires.node)

pub returns-clause-made : goal.returns-clause-made
returns-clause-made c =
    let nodes = c.args.nodes.now.items in
    let number : length nodes ≡ c.len-number.result = sym c.args.nodes.now.ok.0 ∙ sym c.len-number.ensures in
    subst (λ all. IsMade (lists_of nodes) c.len-number.result (of_node (listed nodes) c.args.node).texts (lists_of all)) (sym c.in_ok-push.ensures.items)
    (subst (λ n. IsMade (lists_of nodes) n (of_node (listed nodes) c.args.node).texts (lists_of (nodes ++ c.args.node ∷ []))) number (made-pushed nodes c.args.node))
