use Rattle.std.proofs.lemmas.Result.{err_from_is_err_and}
use Rattle.aa_glob_syntax.proofs.element.next_outside.Goals as goal

pub returns-in_err-next_plain-in-Some-Plain-default-clause-refused :
    goal.returns-in_err-next_plain-in-Some-Plain-default-clause-refused
returns-in_err-next_plain-in-Some-Plain-default-clause-refused c =
    let p = err_from_is_err_and c.from_residual.result c.from_residual.ensures.1 in
    rw (p.1, p.2, c.in-Some-Plain-default.ensures.symbols, c.in-Some-Plain-default.field-0-0-is) (c.in_err-next_plain-in-Some-Plain-default.ensures.refused c.args.context)
