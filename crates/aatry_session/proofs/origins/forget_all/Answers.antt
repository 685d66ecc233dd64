use Rattle.std.proofs.Common.{◌<◌, arith, length, map}
use Rattle.aatry_session.specs.Origins.{unplaced_origin}
use Rattle.aatry_session.proofs.OriginLemmas.{one_mapped}
use Rattle.aatry_session.proofs.origins.forget_all.Goals as goal

pub loop-own-preserved : goal.loop-own-preserved
loop-own-preserved c =
    let i = c.loop-own.own-index in
    let now = c.loop-own.origins in
    let within : i < length c.args.origins.now = omega arith in
    let there : i < length now = omega arith in
    let both = one_mapped (map unplaced_origin) c.args.origins.now now i c.own-item.result c.forget.new.self
    within there c.forget.ensures c.loop-own.invariant.done c.loop-own.invariant.left in
    record { done = both.0; left = both.1 }
