use Rattle.std.proofs.Common.{refl}
use Rattle.aa_text_expansion.proofs.StepLemmas.{begun-last}
use Rattle.aa_text_expansion.proofs.writing.Writing.next.Goals as goal

pub returns : goal.returns
returns c = λ lists. begun-last lists c.args.self.now (record { cells = c.truncate.new.self; waiting = c.pop.new.self; done = c.args.self.now.done }) c.in_ok-begun.begun
    (record { waiting = c.requires.waiting; cells = c.requires.cells }) c.in_ok-begun.ensures.items refl c.truncate.ensures.items
