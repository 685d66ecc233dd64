use Rattle.aa_glob.proofs.WayLemmas.{ways-more}
use Rattle.aa_glob.proofs.ways.draw_ways.Goals as goal

pub loop-state-preserved : goal.loop-state-preserved
loop-state-preserved c =
    ways-more c.args.drawing.now c.loop-state.drawing c.draw_way.new.drawing c.args.from.now c.loop-state.state-index _ c.args.to c.loop-state-test.true c.loop-state.invariant c.in_ok-draw_way.ensures
