use Rattle.std.proofs.Common.{List, subst, sym, ◌∙◌}
use Rattle.aa_profile_data.specs.FileRules.{file_patterns}
use Rattle.aa_profile_data.specs.declared.profile.Rule.{Rule}
use Rattle.aa_decide_ready.proofs.PartLemmas.{no-visits-all}
use Rattle.aa_decide_ready.specs.Visits.{AreAllVisitsOf, attachments_at}
use Rattle.aa_decide_ready.proofs.section.ReadySection.matching_rules.Goals as goal

pub returns-in-Some-clause-found : goal.returns-in-Some-clause-found
returns-in-Some-clause-found c =
    c.matching_rules.ensures.found (attachments_at c.args.self.ready.now c.args.self.child) (rw c.args.self.own c.in-Some.ensures)

pub returns-in-Some-clause-rise : goal.returns-in-Some-clause-rise
returns-in-Some-clause-rise c =
    c.matching_rules.ensures.rise (attachments_at c.args.self.ready.now c.args.self.child) (rw c.args.self.own c.in-Some.ensures)

pub returns-in-Some-clause-steps : goal.returns-in-Some-clause-steps
returns-in-Some-clause-steps c =
    c.matching_rules.ensures.steps (attachments_at c.args.self.ready.now c.args.self.child) (rw c.args.self.own c.in-Some.ensures)

pub returns-in-None-clause-all : goal.returns-in-None-clause-all
returns-in-None-clause-all c =
    subst (λ (rules : List Rule). AreAllVisitsOf (file_patterns rules) c.args.path.now c.args.steps.now c.args.steps.now)
    (sym (c.args.self.own ∙ c.in-None.ensures.0))
    (no-visits-all c.args.path.now c.args.steps.now)
