use Rattle.std.proofs.Common.{◌∙◌}
use Rattle.aa_text_expansion.specs.Parts.{parts}
use Rattle.aa_text_expansion.specs.code.TextParts.{parts_of}
use Rattle.aa_text_expansion.proofs.NumberLemmas.{numbers-behind}
use Rattle.aa_text_expansion.proofs.numbers.gather.Goals as goal

pub loop-part-preserved : goal.loop-part-preserved
loop-part-preserved g c = λ index answers.
    numbers-behind index c.loop-part.gathered.keys c.gather_part.new.gathered.keys (parts_of c.in-Some.part) (parts c.in-Some.after.now) (parts c.loop-part.rest.now)
    (c.in_ok-gather_part.ensures index answers) c.in-Some.ensures.value ∙ c.loop-part.invariant index answers
