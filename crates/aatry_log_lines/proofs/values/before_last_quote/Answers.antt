use Rattle.std.proofs.Common.{◌≡◌, sym, ◌∙◌, arith}
use Rattle.aatry_log_lines.specs.Values.{before_last_quote}
use Rattle.aatry_log_lines.proofs.QuoteLemmas.{before_last_quote-cut, before_one, before_one-none, before_one-some}
use Rattle.aatry_log_lines.proofs.values.before_last_quote.Goals as goal

pub returns-then-rest-eq1 : goal.returns-then-rest-eq1
returns-then-rest-eq1 c =
    let text = c.args.text.now in
    let cut = rw (sym c.size_before_quote.ensures.value) at (before_last_quote-cut text) in
    let parts : before_last_quote text ≡ before_one c.split_at.result.0.now c.split_at.result.1.now =
    rw (c.split_at.ensures.front, c.split_at.ensures.back) cut in
    sym (parts ∙ before_one-some c.split_at.result.0.now c.split_at.result.1.now (omega (arith, c.if-rest-eq1.true)))

pub returns-else-rest-eq1 : goal.returns-else-rest-eq1
returns-else-rest-eq1 c =
    let text = c.args.text.now in
    let cut = rw (sym c.size_before_quote.ensures.value) at (before_last_quote-cut text) in
    let parts : before_last_quote text ≡ before_one c.split_at.result.0.now c.split_at.result.1.now =
    rw (c.split_at.ensures.front, c.split_at.ensures.back) cut in
    sym (parts ∙ before_one-none c.split_at.result.0.now c.split_at.result.1.now c.if-rest-eq1.false)
