use Rattle.std.proofs.Common.{sym, subst, ◌∙◌}
use Rattle.aa_glob_paths.specs.code.Apart.{HaveAlike}
use Rattle.aa_glob_paths.proofs.AlikeLemmas.{tables-alike}
use Rattle.aa_glob_paths.proofs.bytes.are_alike.Goals as goal

pub returns : goal.returns
returns c is =
    tables-alike c.args.tables.now c.args.own.now c.args.one c.args.other c.requires.own (sym c.has.ensures ∙ c.if-has.false) (sym c.has-else-has.ensures ∙ c.if-has-2.false)
    (sym c.is_inside.ensures ∙ c.are_same.ensures c.if-not-are_same.false ∙ c.is_inside-2.ensures) (c.are_same-else-not-are_same.ensures c.if-not-are_same-2.false)
    (subst (λ classes. HaveAlike classes c.args.one c.args.other) c.deref.ensures.value (c.have_alike.ensures is))
