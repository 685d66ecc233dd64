use Rattle.std.proofs.Common.{length, sym, ap, ◌∙◌, arith}
use Rattle.std.specs.List.{list_any}
use Rattle.std.proofs.lemmas.List.{take_all}
use Rattle.aa_set_commands.specs.Lines.{is_line_feed}
use Rattle.aa_set_commands.proofs.LineLemmas.{none_before}
use Rattle.aa_set_commands.proofs.line.first_line.Goals as goal

pub returns-in-Some-clause-line : goal.returns-in-Some-clause-line
returns-in-Some-clause-line c =
    let first = c.in-Some.ensures.0 in
    none_before is_line_feed c.args.bytes.now c.in-Some.end (omega (arith, first.high)) (λ k below. first.before k (omega arith) below)

pub returns-in-None-clause-none : goal.returns-in-None-clause-none
returns-in-None-clause-none c =
    let bytes = c.args.bytes.now in
    ap (list_any is_line_feed) (sym (take_all (length bytes) bytes (omega arith)))
    ∙ none_before is_line_feed bytes (length bytes) (omega arith) (λ k below. c.in-None.ensures k (omega arith) below)
