use Rattle.std.proofs.Common.{refl, arith, ◌∙◌}
use Rattle.aa_text_expansion.proofs.StepLemmas.{waits}
use Rattle.aa_text_expansion.proofs.writing.Writing.wait.Goals as goal

pub returns : goal.returns
returns c = λ lists. waits lists c.args.self.now (record { cells = c.args.self.now.cells; waiting = c.push.new.self; done = c.args.self.now.done })
    (record { text = c.args.text; list = c.args.list; rest = c.args.rest; height = c.len-height.result }) c.requires.stacked
    (let within = c.requires.within in let size = c.len-height.ensures ∙ c.args.self.now.cells.ok.0 in omega arith) (c.len-height.ensures ∙ c.args.self.now.cells.ok.0) refl refl c.in_ok-push.ensures.items
