use Rattle.std.proofs.Common.{refl}
use Rattle.aa_text_variables.specs.code.VariableWalks.{progress}
use Rattle.aa_text_variables.proofs.WalkLemmas.{walk-begins, walk-on}
use Rattle.aa_text_variables.proofs.variables.Variables.finish.Goals as goal

pub loop-task-init : goal.loop-task-init
loop-task-init c =
    walk-begins c.args.self.now c.args.starts.now c.args.walk.now.order.keys c.requires.starts c.args.walk.now.entered.keys c.args.walk.now.order.keys c.args.walk.now.tasks.items
    c.push_all.new.tasks.items c.requires.begins c.in_ok-push_all.ensures refl

pub returns-then-not-branch-clause-cycle : goal.returns-then-not-branch-clause-cycle
returns-then-not-branch-clause-cycle c = λ h.
    (walk-on c.args.self.now c.args.starts.now c.args.walk.now.order.keys c.requires.starts c.in-Some.task c.loop-task.walk.entered.keys c.loop-task.walk.order.keys c.pop.new.self.items
    c.loop-task.walk.tasks.items c.in-Some.ensures.items c.loop-task.invariant c.in_ok-step.field-0 (progress c.step.new.walk) c.in_ok-step.ensures).1 c.if-not-branch.true

pub loop-task-smaller : goal.loop-task-smaller
loop-task-smaller c =
    ((walk-on c.args.self.now c.args.starts.now c.args.walk.now.order.keys c.requires.starts c.in-Some.task c.loop-task.walk.entered.keys c.loop-task.walk.order.keys c.pop.new.self.items
    c.loop-task.walk.tasks.items c.in-Some.ensures.items c.loop-task.invariant c.in_ok-step.field-0 (progress c.step.new.walk) c.in_ok-step.ensures).0 c.if-not-branch.false).1

pub loop-task-preserved : goal.loop-task-preserved
loop-task-preserved c =
    ((walk-on c.args.self.now c.args.starts.now c.args.walk.now.order.keys c.requires.starts c.in-Some.task c.loop-task.walk.entered.keys c.loop-task.walk.order.keys c.pop.new.self.items
    c.loop-task.walk.tasks.items c.in-Some.ensures.items c.loop-task.invariant c.in_ok-step.field-0 (progress c.step.new.walk) c.in_ok-step.ensures).0 c.if-not-branch.false).0
