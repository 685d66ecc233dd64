use Rattle.std.proofs.Common.{◌≡◌, take}
use Rattle.std.specs.Prelude.{Contains}
use Rattle.aa_glob_pairs.specs.Waiting.{Gains, Ordered}
use Rattle.aa_glob_pairs.proofs.visit.go_first.Given as goal

abbrev pub invariant-loop-state : goal.invariant-loop-state
invariant-loop-state l = Gains l.initial.waiting l.waiting (Ordered (λ x y. Contains (take l.state-index l.free) x × (y ≡ l.column)))
