use Rattle.std.proofs.Common.{sym, ap, ◌∙◌}
use Rattle.aatry_log_lines.specs.Lines.{are_several}
use Rattle.aatry_log_lines.proofs.SeveralLemmas.{several-rest}
use Rattle.aatry_log_lines.proofs.lines.is_of_several.Goals as goal

pub returns : goal.returns
returns c =
    c.is_some.ensures ∙ sym (several-rest (λ rest. rest.now) c.first_member.result.0.now c.first_member.result.1)
    ∙ ap are_several (sym c.first_member.ensures.parts)
