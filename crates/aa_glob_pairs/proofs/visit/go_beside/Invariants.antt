use Rattle.std.proofs.Common.{take, [], ◌∷◌}
use Rattle.aa_glob_pairs.specs.Nodes.{AreShared}
use Rattle.aa_glob_pairs.specs.Waiting.{Gains, Ordered}
use Rattle.aa_glob_pairs.proofs.visit.go_beside.Given as goal

abbrev pub invariant-loop-other : goal.invariant-loop-other
invariant-loop-other l = Gains l.initial.waiting l.waiting (Ordered (AreShared (l.step ∷ []) (take l.other-index l.second)))
