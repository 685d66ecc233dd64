use Rattle.std.proofs.Common.{◌++◌, sym, ap, ◌∙◌}
use Rattle.std.specs.Prelude.{slice_get}
use Rattle.aatry_requests.specs.code.TallyAt.{tally_at}
use Rattle.aatry_requests.proofs.OrderLemmas.{take-step}
use Rattle.aatry_requests.proofs.order.all_of.Goals as goal

pub loop-place-preserved : goal.loop-place-preserved
loop-place-preserved c =
    let tallies = c.args.tallies.now in
    let at = tally_at (slice_get tallies c.loop-place.place) in
    c.in_ok-push_at.ensures ∙ ap (λ front. front ++ at) c.loop-place.invariant ∙ sym (take-step tallies c.loop-place.place)
