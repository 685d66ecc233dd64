use Rattle.std.proofs.Common.{refl, ◌∙◌}
use Rattle.aa_text_expansion.proofs.StepLemmas.{started}
use Rattle.aa_text_expansion.proofs.writing.Writing.start.Goals as goal

pub returns : goal.returns
returns c = λ lists. started lists c.args.list (record { cells = c.new-2.result; waiting = c.push.new.self; done = c.new-3.result })
    (record { text = c.new.result; list = c.args.list; rest = 0; height = 0 }) c.new-2.ensures.items c.new-3.ensures.items
    (c.in_ok-push.ensures.items ∙ rw c.new-waiting.ensures.items refl) c.new.ensures.items refl refl refl
