use Rattle.std.proofs.Common.{take}
use Rattle.aa_glob_pairs.specs.Nodes.{AreShared}
use Rattle.aa_glob_pairs.specs.Waiting.{Gains, Ordered}
use Rattle.aa_glob_pairs.proofs.visit.go_both.Given as goal

abbrev pub invariant-loop-step : goal.invariant-loop-step
invariant-loop-step l = Gains l.initial.waiting l.waiting (Ordered (AreShared (take l.step-index l.first) l.second))
