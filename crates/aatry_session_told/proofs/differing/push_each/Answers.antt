use Rattle.std.proofs.Common.{◌∙◌, ◌<◌, ◌+◌, ◌++◌, [], ap, arith, drop, flat_map, length}
use Rattle.aatry_session_told.specs.Differing.{difference_of}
use Rattle.aatry_session_told.specs.SeenDifferences.{seen_differences}
use Rattle.aatry_session_told.proofs.DifferingLemmas.{next_gives}
use Rattle.aatry_session_told.proofs.differing.push_each.Goals as goal

pub loop-place-preserved : goal.loop-place-preserved
loop-place-preserved c =
    let files = c.args.files.now in
    let given = difference_of c.args.side c.args.others.now in
    let place = c.loop-place.place in
    let within : place < length files = omega arith in
    ap (λ front. front ++ flat_map given (drop (place + 1) files)) c.in_ok-push_at.ensures
    ∙ next_gives given files place ([], []) (seen_differences c.loop-place.found.items) within
    ∙ c.loop-place.invariant
