use Rattle.std.proofs.Common.{◌≡◌, min, arith, ◌∙◌}
use Rattle.aa_text_expansion.specs.Choices.{choice_count}
use Rattle.aa_text_expansion.specs.Counting.{most_counted}
use Rattle.aa_text_expansion.specs.Parts.{parts}
use Rattle.aa_text_expansion.specs.code.TextParts.{parts_of}
use Rattle.aa_text_expansion.proofs.CountingLemmas.{count-part, parts-counted}
use Rattle.aa_text_expansion.proofs.counting.count_text.Goals as goal

pub loop-part-preserved : goal.loop-part-preserved
loop-part-preserved g c =
    let counts = g.C.Counts.counts c.args.counts.now in
    record {
      same = rw (c.min-so_far.ensures, c.saturating_mul.ensures) (count-part counts c.loop-part.so_far c.count_part-times.result _ (parts_of c.in-Some.part) (parts c.in-Some.after.now) (parts c.loop-part.rest.now) c.in-Some.ensures.value c.count_part-times.ensures (omega arith) ∙ c.loop-part.invariant.same);
      bounded = omega arith;
    }

pub returns-clause-right : goal.returns-clause-right
returns-clause-right g c =
    let counts = g.C.Counts.counts c.args.counts.now in
    let all = rw c.in_default.ensures.value at c.loop-part.invariant.same in
    let value : c.loop-part.so_far ≡ min (choice_count counts (parts c.args.text.now)) most_counted = omega (arith, all, c.loop-part.invariant.bounded) in
    λ values each. value ∙ parts-counted counts values (parts c.args.text.now) each
