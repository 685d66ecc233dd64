use Rattle.std.proofs.Common.{◌≡◌, ◌+◌, ◌++◌, drop, sym, ap, ◌∙◌}
use Rattle.std.specs.Prelude.{slice_get}
use Rattle.std.proofs.lemmas.List.{append_assoc}
use Rattle.aa_set_manager.specs.Manager.{Managed}
use Rattle.aatry_diff.specs.Differing.{differences}
use Rattle.aatry_diff.specs.SeenDifferences.{seen_differences}
use Rattle.aatry_diff.specs.code.Steps.{difference_at}
use Rattle.aatry_diff.proofs.DifferenceLemmas.{differences-step}
use Rattle.aatry_diff.proofs.finding.find_differences.Goals as goal

pub loop-place-preserved : goal.loop-place-preserved
loop-place-preserved c =
    let old = c.args.old.now.machine.now in
    let new = c.args.new.now.machine.now in
    let tallies = c.args.tallies.now in
    let at = slice_get tallies c.loop-place.place in
    let found = seen_differences c.loop-place.found.items in
    let behind = differences old new (drop (c.loop-place.place + 1) tallies) in
    let own : seen_differences c.push_difference_at.new.found.items ≡ found ++ difference_at old new at =
    c.in_ok-push_difference_at.ensures.found
    ∙ ap (λ (m : Managed). found ++ difference_at m.machine.now c.loop-place.new.machine.now at) c.loop-place.invariant.old
    ∙ ap (λ (m : Managed). found ++ difference_at old m.machine.now at) c.loop-place.invariant.new in
    record {
      found = ap (λ front. front ++ behind) own ∙ append_assoc found (difference_at old new at) behind
          ∙ ap (λ more. found ++ more) (sym (differences-step old new tallies c.loop-place.place)) ∙ c.loop-place.invariant.found;
      old = c.in_ok-push_difference_at.ensures.old ∙ c.loop-place.invariant.old;
      new = c.in_ok-push_difference_at.ensures.new ∙ c.loop-place.invariant.new;
    }
