use Rattle.std.proofs.Common.{◌∙◌, ◌<◌, [], length, get_or, subst, sym, ap}
use Rattle.std.proofs.lemmas.List.{get_or-map}
use Rattle.std.specs.Cmp.Lexicographic.{same_text}
use Rattle.aa_glob_run.proofs.memo.Memo.find.Goals as goal

pub returns-then-eq-clause-same : goal.returns-then-eq-clause-same
returns-then-eq-clause-same c =
    let fronts = c.args.self.now.fronts.items in
    let front = c.in_ok-front.front.now in
    let number = c.in_ok-number.field-0.now in
    let there = c.in_ok-front.ensures.lookup in
    let within : number < length fronts = subst (λ l. number < length l) c.deref-2.ensures.value there.3.0 in
    get_or-map (λ f. f.items) fronts number front [] within
    ∙ ap (λ f. f.items) (sym (there.1 ∙ ap (λ l. get_or l number front) c.deref-2.ensures.value))
    ∙ sym c.as_slice.ensures.value
    ∙ same_text c.as_slice.result.now c.args.states.now (sym c.if-eq.true ∙ c.eq.ensures)
