use Rattle.std.proofs.Common.{◌≡◌, length, map}
use Rattle.aatry_check_rules.specs.Unattached.{some_asks}
use Rattle.aatry_check_rules.proofs.unattached.some_asks.Given as goal

-- none so far does: those that are left decide
abbrev pub invariant-loop-rest : goal.invariant-loop-rest
invariant-loop-rest l = some_asks l.rest l.origins (map (λ name. name.now) l.names) ≡ some_asks l.slots l.origins (map (λ name. name.now) l.names)

abbrev pub decreases-loop-rest : goal.decreases-loop-rest
decreases-loop-rest l = length l.rest
