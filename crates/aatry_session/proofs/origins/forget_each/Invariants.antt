use Rattle.std.proofs.Common.{◌≡◌, drop, map, take}
use Rattle.aatry_session.specs.Origins.{unplaced_origin}
use Rattle.aatry_session.proofs.origins.forget_each.Given as goal

-- those so far have no places, and the others are as they were
abbrev pub invariant-loop-origin : goal.invariant-loop-origin
invariant-loop-origin l = record {
  done : take l.origin-index l.origins ≡ map unplaced_origin (take l.origin-index l.initial.origins);
  left : drop l.origin-index l.origins ≡ drop l.origin-index l.initial.origins;
}
