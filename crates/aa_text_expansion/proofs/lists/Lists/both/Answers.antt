use Rattle.std.proofs.Common.{◌≡◌, ◌<◌, [], ◌++◌, length, subst, sym, ap, ◌∙◌}
use Rattle.aa_text_expansion.specs.Lists.{list_at}
use Rattle.aa_text_expansion.specs.code.Made.{lists_of}
use Rattle.aa_text_expansion.proofs.ListLemmas.{made-already}
use Rattle.aa_text_expansion.proofs.MadeLemmas.{lists-length}
use Rattle.aa_text_expansion.proofs.lists.Lists.both.Goals as goal

pub returns-then-has_nothing-clause-made : goal.returns-then-has_nothing-clause-made
returns-then-has_nothing-clause-made c =
    let lists = c.args.self.now in
    let seen : lists_of c.as_slice.result.now ≡ lists = ap lists_of c.as_slice.ensures.value ∙ c.self.view_is in
    let none : list_at lists c.args.first ≡ [] = ap (λ all. list_at all c.args.first) (sym seen) ∙ c.has_nothing.ensures c.if-has_nothing.true in
    made-already lists c.args.second _ c.requires.second (ap (λ front. front ++ list_at lists c.args.second) (sym none))

pub both_node-node-requires-clause-first : goal.both_node-node-requires-clause-first
both_node-node-requires-clause-first c =
    subst (λ size. c.args.first < size) (sym (ap length c.self.view_is) ∙ lists-length c.self.inside.nodes.items ∙ sym (ap length c.as_slice-2.ensures.value)) c.requires.first

pub both_node-node-requires-clause-second : goal.both_node-node-requires-clause-second
both_node-node-requires-clause-second c =
    subst (λ size. c.args.second < size) (sym (ap length c.self.view_is) ∙ lists-length c.self.inside.nodes.items ∙ sym (ap length c.as_slice-2.ensures.value)) c.requires.second
