-- Definitions for the laws on verdicts.
use Rattle.std.specs.Prelude.{Some}
use Rattle.aa_decide_rules.specs.declared.verdict.Answer.{Answer}
use Rattle.aa_decide_rules.specs.declared.verdict.Answer.TheVariants.{Complain, Refuse}
use Rattle.aa_decide_rules.specs.declared.verdict.Tag.TheVariants.{Allowed}
use Rattle.aa_decide_rules.specs.declared.verdict.Verdict.{Verdict}

-- what complain mode answers where enforce mode gives this answer
abbrev pub complained : Answer → Verdict → Verdict
complained Refuse verdict = record { answer = Complain; tag = Some Allowed; mask = verdict.mask }
complained answer verdict = verdict

-- What enforce mode refuses is let through, and logged with the same needs; nothing else changes.
abbrev pub in_complain : Verdict → Verdict
in_complain verdict = complained verdict.answer verdict
