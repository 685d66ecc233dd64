use Rattle.std.proofs.Common.{◌∙◌}
use Rattle.aa_glob_nfa.proofs.TableLemmas.{class_has-found, class_has-other, class_has-none}
use Rattle.aa_glob_nfa.proofs.tables.class_has.Goals as goal

pub returns-in-Some : goal.returns-in-Some
returns-in-Some c =
    let found = c.in-Some.ensures.lookup in
    c.has.ensures
    ∙ class_has-found c.args.classes.now c.args.state c.first_class.result c.args.byte c.in-Some.class.now found.3.0 c.first_class.ensures.before found.1 c.if-class-state.true

pub returns-in_default : goal.returns-in_default
returns-in_default c =
    let found = c.in-Some.ensures.lookup in
    class_has-other c.args.classes.now c.args.state c.first_class.result c.args.byte c.in-Some.class.now c.requires c.first_class.ensures.before c.first_class.ensures.behind
    found.3.0 found.1 c.if-class-state.false

pub returns-in_default-2 : goal.returns-in_default-2
returns-in_default-2 c =
    let lookup = rw c.in_default.is at c.get.ensures.lookup in
    class_has-none c.args.classes.now c.args.state c.first_class.result c.args.byte c.first_class.ensures.before lookup.3
