use Rattle.std.proofs.Common.{take}
use Rattle.aa_glob.specs.Ways.{AddsWays}
use Rattle.aa_glob.proofs.ways.draw_ways.Given as goal

abbrev pub invariant-loop-state : goal.invariant-loop-state
invariant-loop-state l = AddsWays l.fn.drawing l.drawing (take l.state-index l.from) l.to
