use Rattle.std.proofs.Common.{◌≡◌, ◌+◌, ◌<◌, ◌∙◌, ap, arith, length, take, vec_capacity, vec_len}
use Rattle.std.proofs.lemmas.Result.{MatchResult-from_err}
use Rattle.aatry_report.specs.CaretLine.{caret_line}
use Rattle.aatry_report.specs.Characters.{character_count}
use Rattle.aatry_report.specs.Lines.{last_line}
use Rattle.aatry_report.proofs.CaretLemmas.{length-caret_line}
use Rattle.aatry_report.proofs.caret_line.push_caret_line.Goals as goal

pub returns-in_err-reserve-clause-full : goal.returns-in_err-reserve-clause-full
returns-in_err-reserve-clause-full c =
    let long = length-caret_line c.args.text.now c.args.at in
    let count : c.character_count.result ≡ character_count (last_line (take c.args.at c.args.text.now)) = c.character_count.ensures.value ∙ ap character_count c.before_in_line-front.ensures in
    let full : vec_capacity c.args.out.now < vec_len c.args.out.now + length (caret_line c.args.text.now c.args.at) = omega (arith, c.in_err-reserve.ensures.full) in
    MatchResult-from_err c.from_residual.result _ _ c.from_residual.ensures.0 (λ _. full)
