use Rattle.std.proofs.Common.{◌∙◌, ap, sym, is_ok, Ok}
use Rattle.aa_glob_syntax.specs.Classes.{class, set_read}
use Rattle.aa_glob_syntax.specs.Symbols.{symbols}
use Rattle.aa_glob_syntax.proofs.ElementLemmas.{Ok-set_read}
use Rattle.aa_glob_syntax.proofs.SymbolLemmas.{class-taken}
use Rattle.aa_glob_syntax.proofs.class.Class.read.Goals as goal

pub invariant_of-result : goal.invariant_of-result
invariant_of-result c =
    let whole = ap is_ok c.class_start.ensures.class ∙ c.in_ok-rest.ensures.reads c.class_start.result.0 in
    record { reads = ap is_ok (class-taken c.args.text.now c.class_length.result c.class_length.ensures.value) ∙ whole }

pub returns-clause-class : goal.returns-clause-class
returns-clause-class c =
    let whole = ap is_ok c.class_start.ensures.class ∙ c.in_ok-rest.ensures.reads c.class_start.result.0 in
    Ok-set_read (class (symbols c.args.text.now)) whole ∙ ap (λ set. Ok (set_read set)) (sym (class-taken c.args.text.now c.class_length.result c.class_length.ensures.value))
