use Rattle.std.proofs.lemmas.Result.{err_from_is_err_and}
use Rattle.aa_glob_syntax.specs.Symbols.{symbols}
use Rattle.aa_glob_syntax.proofs.ElementLemmas.{BeginWithFault-class}
use Rattle.aa_glob_syntax.proofs.element.next_class.Goals as goal

pub returns-in_err-class-clause-refused : goal.returns-in_err-class-clause-refused
returns-in_err-class-clause-refused c =
    let p = err_from_is_err_and c.from_residual.result c.from_residual.ensures.1 in
    rw (p.1, p.2) (λ context. BeginWithFault-class context (symbols c.args.text.now) c.in_err-class.field-0.0 c.in_err-class.ensures.refused)
