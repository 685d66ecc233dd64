use Rattle.std.proofs.Common.{◌∙◌}
use Rattle.aa_text_variables.proofs.VariableLemmas.{same_texts-short}
use Rattle.aa_text_variables.proofs.variables.are_same.Goals as goal

pub returns-in-empty : goal.returns-in-empty
returns-in-empty c = same_texts-short (λ w. w.now) c.args.words.now c.loop-word.word-index c.loop-word.rest.now c.loop-word-test.true c.in-empty.len_below ∙ c.loop-word.invariant
