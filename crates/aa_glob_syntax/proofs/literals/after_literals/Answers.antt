use Rattle.aa_glob_syntax.proofs.LiteralLemmas.{elements-after}
use Rattle.aa_glob_syntax.proofs.literals.after_literals.Goals as goal

pub returns-clause-elements : goal.returns-clause-elements
returns-clause-elements c =
    elements-after c.args.context c.literals_at-count.result c.args.text.now c.literals_at-count.ensures.value c.if-count-eq0.false c.context_after.result c.context_after.ensures
