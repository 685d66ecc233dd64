use Rattle.std.proofs.Common.{◌<◌, arith, length, refl, slice_index_or}
use Rattle.aatry_session.specs.Origins.{unplaced_origin}
use Rattle.aatry_session.proofs.OriginLemmas.{one_mapped}
use Rattle.aatry_session.proofs.origins.forget_each.Goals as goal

pub loop-origin-preserved : goal.loop-origin-preserved
loop-origin-preserved c =
    let i = c.loop-origin.origin-index in
    let now = c.loop-origin.origins in
    let within : i < length c.args.origins.now = omega arith in
    let there : i < length now = omega arith in
    let both = one_mapped unplaced_origin c.args.origins.now now i c.origin-item.result (unplaced_origin (slice_index_or now i c.origin-item.result))
    within there refl c.loop-origin.invariant.done c.loop-origin.invariant.left in
    record { done = both.0; left = both.1 }
