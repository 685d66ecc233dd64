use Rattle.std.proofs.Common.{◌-◌, ◌<◌, ap, arith, length, refl, subst, sym, ◌∙◌}
use Rattle.std.proofs.lemmas.Option.{slice_get_read}
use Rattle.aa_text_expansion.specs.code.Written.{Adds, ends_of, rest_at, rests}
use Rattle.aa_text_expansion.proofs.StepLemmas.{cell-adds, rest-first}
use Rattle.aa_text_expansion.proofs.WrittenLemmas.{earlier-at}
use Rattle.aa_text_expansion.proofs.writing.Writing.go_on.Goals as goal

pub returns-then-rest-eq0 : goal.returns-then-rest-eq0
returns-then-rest-eq0 c = λ lists.
    let all = rests lists c.args.self.now.cells.items in
    subst (λ rest. Adds lists c.args.self.now (ends_of c.args.text rest.texts) rest.steps c.finish.new.self)
    (sym (ap (rest_at all) c.if-rest-eq0.true ∙ rest-first lists c.args.self.now.cells.items)) (c.in_ok-finish.ensures lists)

pub wait-requires-clause-within : goal.wait-requires-clause-within
wait-requires-clause-within c =
    let cells = c.args.self.now.cells.items in
    let at = c.args.rest - 1 in
    let within = c.requires.within in
    let inside : at < length cells = omega arith in
    let early = earlier-at 0 cells at c.index-cell.result.now c.requires.stacked.cells (slice_get_read cells (length cells) at c.index-cell.result.now refl inside c.index-cell.ensures) in
    omega arith

pub returns : goal.returns
returns c = λ lists.
    let cells = c.args.self.now.cells.items in
    let at = c.args.rest - 1 in
    let within = c.requires.within in
    let inside : at < length cells = omega arith in
    cell-adds lists c.args.self.now c.wait.new.self c.args.text c.args.rest c.index-cell.result.now at c.requires.stacked (omega arith)
    (slice_get_read cells (length cells) at c.index-cell.result.now refl inside c.index-cell.ensures) (c.in_ok-wait.ensures lists)
