use Rattle.std.proofs.Common.{codes}
use Rattle.aa_set_commands.proofs.QuestionLemmas.{word-is}
use Rattle.aa_set_commands.proofs.question.of_three_words.Goals as goal

pub returns-clause-ok : goal.returns-clause-ok
returns-clause-ok c = rw (word-is c.args.kind.now c.as_slice.result.now (codes "cap") c.as_slice.ensures c.if-ne.ensures) c.capability_question.ensures.ok

pub returns-clause-refused : goal.returns-clause-refused
returns-clause-refused c = rw (word-is c.args.kind.now c.as_slice.result.now (codes "cap") c.as_slice.ensures c.if-ne.ensures) c.capability_question.ensures.refused
