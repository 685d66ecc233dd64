use Rattle.std.proofs.Common.{◌∙◌, ap, rules}
use Rattle.aa_profile_data.specs.Conflicts.{agree}
use Rattle.aa_decide_ready.proofs.AgreementLemmas.{rules-agree}
use Rattle.aa_decide_ready.proofs.section.ReadySection.rules_agree.Goals as goal

pub returns-clause-agree : goal.returns-clause-agree
returns-clause-agree c = ap agree c.args.self.own ∙ rules-agree c.args.self.ready.now c.args.self.child (search rules)
