use Rattle.std.proofs.Common.{ap, sym, ◌∙◌, None, Ok}
use Rattle.std.proofs.lemmas.Result.{err_from_is_err_and}
use Rattle.aa_text_tokens.specs.Splicing.{deepest}
use Rattle.aa_text_tokens.specs.code.SplicingProgress.{fault_of, with_file}
use Rattle.aa_text_tokens.proofs.SplicingLemmas.{spliced-entered, spliced-fault, spliced-none}
use Rattle.aa_text_tokens.proofs.splicing.spliced.Goals as goal

pub returns-in_default-clause-refused : goal.returns-in_default-clause-refused
returns-in_default-clause-refused c other = spliced-none c.args.files.now c.args.name.now c.in_default.ensures

pub returns-in_err-enter-clause-refused : goal.returns-in_err-enter-clause-refused
returns-in_err-enter-clause-refused c =
    let p = err_from_is_err_and c.from_residual.result c.from_residual.ensures.1 in
    rw (p.1, p.2) (λ other. spliced-fault c.args.files.now c.args.name.now c.in-Some.file (fault_of c.in_err-enter.field-0.0) c.in-Some.ensures
    (ap (λ so_far. with_file so_far deepest c.in-Some.file None) (sym c.new-splicer.ensures) ∙ c.in_err-enter.ensures.refused other))

pub returns-clause-ok : goal.returns-clause-ok
returns-clause-ok c =
    spliced-entered c.args.files.now c.args.name.now c.in-Some.file c.enter.new.self c.in-Some.ensures
    (ap (λ so_far. with_file so_far deepest c.in-Some.file None) (sym c.new-splicer.ensures) ∙ c.in_ok-enter.ensures.ok)
    ∙ ap (λ tokens. Ok tokens) (sym c.into_tokens.ensures)
