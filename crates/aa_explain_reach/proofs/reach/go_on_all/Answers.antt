use Rattle.std.proofs.Common.{◌≡◌, ◌∙◌, Some, ap, arith, sym}
use Rattle.std.specs.Prelude.{slice_get}
use Rattle.std.proofs.lemmas.Option.{slice_get-get_or}
use Rattle.aa_explain_reach.proofs.ReachLemmas.{reached-next}
use Rattle.aa_explain_reach.proofs.reach.go_on_all.Goals as goal

pub loop-left-preserved : goal.loop-left-preserved
loop-left-preserved c =
    let left = c.loop-left.left in
    let here : slice_get c.loop-left.nodes.items left ≡ Some c.in-Some.node.now =
    ap (λ l. slice_get l left) (sym c.deref.ensures.value) ∙ slice_get-get_or c.deref.result.now left c.in-Some.node.now c.in-Some.ensures.lookup.3.0
    ∙ ap Some (sym c.in-Some.ensures.lookup.1) in
    record {
      within = omega (arith, c.loop-left-test.true);
      reached = λ who first.
          reached-next c.args.slots.now who c.args.limit c.loop-left.nodes.items c.go_on_from.new.nodes.items c.loop-left.unknown.items
          c.go_on_from.new.unknown.items left c.in-Some.node.now (c.loop-left.invariant.reached who first) here c.in_ok-go_on_from.ensures;
    }
