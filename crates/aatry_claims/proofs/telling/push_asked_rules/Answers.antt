use Rattle.std.proofs.Common.{◌∙◌, ◌++◌}
use Rattle.aatry_claims.specs.Telling.{asked_lines}
use Rattle.aatry_why_lines.specs.Why.{why_lines}
use Rattle.aatry_claims.proofs.telling.push_asked_rules.Goals as goal

pub returns : goal.returns
unfolding asked_lines
returns c =
    c.in_ok-push_why.ensures
    ∙ (λ i. c.args.out.now.items ++ why_lines c.args.teller.form (c.written_of-written.ensures i) (c.request.ensures i) (c.is_lacking.ensures i))
