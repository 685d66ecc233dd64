use Rattle.std.proofs.Common.{subst, sym}
use Rattle.aa_glob.proofs.BuiltLemmas.{graph-of-built}
use Rattle.aa_glob.specs.Automata.{IsAutomatonOf}
use Rattle.aa_glob.specs.Built.{IsBuilt}
use Rattle.aa_glob.proofs.builder.AutomatonBuilder.finish.Goals as goal

pub returns-else-self-eq0 : goal.returns-else-self-eq0
returns-else-self-eq0 c patterns built =
    subst (λ states. IsAutomatonOf states patterns) (sym c.of.ensures)
    (graph-of-built c.how_graphs_are_drawn.ensures.same_is_drawn c.self.inside.growing c.self.inside.patterns c.finish.result patterns c.if-self-eq0.false c.finish.ensures.same
    (subst (λ b. IsBuilt b patterns) (sym c.self.view_is) built))
