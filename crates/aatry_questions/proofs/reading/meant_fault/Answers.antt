use Rattle.std.proofs.Common.{sym, ◌∙◌}
use Rattle.aatry_questions.proofs.WordLemmas.{other-fault}
use Rattle.aatry_questions.proofs.reading.meant_fault.Goals as goal

pub returns : goal.returns
returns c = c.question_fault.ensures ∙ sym (other-fault (λ word. word.now) c.args.words.now c.if-words-eq3.false c.if-words-eq5.false)
