use Rattle.std.proofs.Common.{◌∙◌, ◌≡◌, true, ap, arith, length, refl, slice_index_or, slice_set, sym}
use Rattle.std.specs.Str.{bytes_eq}
use Rattle.aa_history.specs.SeenMarks.{seen_marks}
use Rattle.aa_history.specs.declared.marks.Mark.{Mark}
use Rattle.aa_history.proofs.MarkLemmas.{set_found}
use Rattle.aa_history.proofs.marks.set_among.Goals as goal

pub returns-then-eq-clause-ok : goal.returns-then-eq-clause-ok
returns-then-eq-clause-ok c =
    let name = c.args.name.items in
    let place = c.loop-place.place in
    let mark : Mark = c.index_mut-mark.result.now in
    let new : Mark = record { name = mark.name; number = c.args.number } in
    let same = c.loop-place.invariant.same in
    let found : bytes_eq mark.name.items name ≡ true =
    sym (c.eq.ensures ∙ ap (λ bytes. bytes_eq bytes c.as_slice-in-loop-place.result.now) c.as_slice.ensures.value ∙ ap (bytes_eq mark.name.items) c.as_slice-in-loop-place.ensures.value)
    ∙ c.if-eq.true in
    let size = ap length same in
    ap (λ items. seen_marks (slice_set items place new)) same
    ∙ set_found c.args.marks.now.items place mark new name (omega (arith, c.loop-place-test.true, c.len-place-end.ensures))
    (c.index_mut-mark.ensures.value ∙ ap (λ items. slice_index_or items place mark) same) found refl
    ∙ sym c.loop-place.invariant.behind
