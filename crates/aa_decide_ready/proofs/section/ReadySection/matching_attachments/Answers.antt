use Rattle.std.proofs.Common.{List, subst, sym, ℕ, ◌∙◌}
use Rattle.std.proofs.lemmas.Result.{IfOk-weaker}
use Rattle.aa_decide_ready.proofs.PartLemmas.{no-visits-all}
use Rattle.aa_decide_ready.specs.Visits.{AreAllVisitsOf}
use Rattle.aa_decide_ready.specs.Ready.{rules_at}
use Rattle.aa_decide_ready.proofs.section.ReadySection.matching_attachments.Goals as goal

pub returns-in-Some-clause-found : goal.returns-in-Some-clause-found
returns-in-Some-clause-found c =
    IfOk-weaker c.matching_attachments.result _ _
    (λ places found. found (rules_at c.args.self.ready.now c.args.self.child) c.args.self.attachments.now (rw c.args.self.attached c.in-Some.ensures))
    c.matching_attachments.ensures.found

pub returns-in-Some-clause-steps : goal.returns-in-Some-clause-steps
returns-in-Some-clause-steps c =
    c.matching_attachments.ensures.steps (rules_at c.args.self.ready.now c.args.self.child) c.args.self.attachments.now (rw c.args.self.attached c.in-Some.ensures)

pub returns-in-None-clause-all : goal.returns-in-None-clause-all
returns-in-None-clause-all c =
    subst (λ (patterns : List (List ℕ)). AreAllVisitsOf patterns c.args.path.now c.args.steps.now c.args.steps.now)
    (sym (c.args.self.attached ∙ c.in-None.ensures.1))
    (no-visits-all c.args.path.now c.args.steps.now)
