use Rattle.std.proofs.Common.{◌≡◌, drop, map, take}
use Rattle.aatry_session.specs.Origins.{unplaced_origin}
use Rattle.aatry_session.proofs.origins.forget_all.Given as goal

-- those so far have no places, and the others are as they were
abbrev pub invariant-loop-own : goal.invariant-loop-own
invariant-loop-own l = record {
  done : take l.own-index l.origins ≡ map (map unplaced_origin) (take l.own-index l.initial.origins);
  left : drop l.own-index l.origins ≡ drop l.own-index l.initial.origins;
}
