use Rattle.std.proofs.Common.{◌∙◌, ap, not, ◌||◌}
use Rattle.std.specs.Prelude.{◌==◌}
use Rattle.aa_decide_rules.specs.Verdict.{missing}
use Rattle.aa_explain_rules.specs.Told.{told}
use Rattle.aatry_why_lines.proofs.GroupLemmas.{some-audits}
use Rattle.aatry_why_lines.proofs.laws.what_is_told_as_audited.Goals as goal

pub returns : goal.returns
returns c mode flag request rules =
    c.what_is_logged.ensures mode flag request rules ∙ ap (λ b. not (missing request rules == 0) || b) (some-audits (told flag request rules))
