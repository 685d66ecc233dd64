use Rattle.std.proofs.Common.{◌≡◌, get_or, sym, ap, ◌∙◌, arith}
use Rattle.std.proofs.lemmas.List.{get_or_default}
use Rattle.std.specs.Prelude.{slice_get}
use Rattle.aa_decide_ready.proofs.PickLemmas.{picked-none, picked-some}
use Rattle.aa_decide_ready.proofs.part.pick.Goals.{in-Some, in_default}
use Rattle.aa_decide_ready.proofs.part.pick.Goals as goal

pub loop-at-preserved : goal.loop-at-preserved
loop-at-preserved c =
    let numbers = c.args.numbers.now in
    let old = c.args.places.now.items in
    let places = c.loop-at.places.items in
    let at = c.loop-at.at in
    let kept = c.loop-at.kept in
    let place : get_or places at 0 ≡ c.index.result.now = get_or_default places at 0 c.index.result.now (omega arith) ∙ sym c.index.ensures in
    elim c.match-number_at.branch [
      | in-Some w ↦
          let next = picked-some numbers old places at kept w.in-Some.number (omega arith) (ap (slice_get numbers) place ∙ sym c.number_at.ensures ∙ w.in-Some.is) c.loop-at.invariant in
          rw (w.places-is, w.kept-is) next
      | in_default w ↦
          let next = picked-none numbers old places at kept (omega arith) (ap (slice_get numbers) place ∙ sym c.number_at.ensures ∙ w.in_default.is) c.loop-at.invariant in
          rw (w.places-is, w.kept-is) next
    ]
