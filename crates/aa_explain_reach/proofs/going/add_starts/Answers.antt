use Rattle.std.proofs.Common.{◌∙◌, ◌++◌, ◌∷◌, [], ap, append_assoc, sym}
use Rattle.aa_explain_reach.proofs.GoingLemmas.{adds-none, adds-then}
use Rattle.aa_explain_reach.proofs.going.add_starts.Goals as goal

pub loop-start-init : goal.loop-start-init
loop-start-init c = ([], c.into_iter-start-iterator.ensures.into_iter_gives.0, adds-none c.args.from c.args.nodes.now.items)

pub loop-start-preserved : goal.loop-start-preserved
loop-start-preserved c =
    let inv = c.loop-start.invariant in
    let start = c.in-Some.start in (
      inv.0 ++ start ∷ [],
      append_assoc inv.0 (start ∷ []) c.next.new.self.rest.items ∙ ap (λ l. inv.0 ++ l) (sym c.in-Some.ensures.steps.0) ∙ inv.1,
      adds-then c.args.from inv.0 start c.args.nodes.now.items c.loop-start.nodes.items c.add_start.new.nodes.items inv.2 c.in_ok-add_start.ensures,
    )
