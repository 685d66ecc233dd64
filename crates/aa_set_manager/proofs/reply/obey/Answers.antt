use Rattle.std.proofs.Common.{ap, not, refl}
use Rattle.aa_set_answers.specs.Answers.{reply_lines}
use Rattle.aa_set_commands.specs.Command.{Ask}
use Rattle.aa_set_commands.specs.Question.{seen_question}
use Rattle.aa_set_manager.proofs.ReplyLemmas.{obeyed-answered, obeyed-mark, of-that}
use Rattle.aa_set_manager.proofs.reply.obey.Goals as goal

pub returns-in-Ask : goal.returns-in-Ask
returns-in-Ask c =
    let managed = c.remember.new.self in
    rw (c.in-Ask.is, ← c.remember.ensures) (obeyed-answered (λ lines. lines.items) c.args.files.now managed (Ask (seen_question c.in-Ask.question)) (reply_lines managed.machine.now (seen_question c.in-Ask.question))
    c.ask.result c.answered.result refl c.ask.ensures.answered c.ask.ensures.refused (of-that c.ask.result c.ask.ensures.memory (λ refusal absent memory. ap not (absent memory))) c.answered.ensures)

pub returns-in-Mark : goal.returns-in-Mark
returns-in-Mark c =
    rw c.in-Mark.is (obeyed-mark c.args.files.now c.args.manager.now c.mark.new.self c.in-Mark.name.now c.mark.result c.done-in-Mark.result
    c.mark.ensures.ok c.mark.ensures.refused c.mark.ensures.unchanged c.mark.ensures.memory c.done-in-Mark.ensures)
