use Rattle.aa_text_variables.specs.code.VariableWalks.{IsWalk, progress}
use Rattle.aa_text_variables.proofs.WalkLemmas.{steps_left}
use Rattle.aa_text_variables.proofs.variables.Variables.finish.Given as goal

-- what is known of a walk so far
abbrev pub invariant-loop-task : goal.invariant-loop-task
invariant-loop-task l = IsWalk l.self l.starts l.fn.walk.order.keys (progress l.walk)

abbrev pub decreases-loop-task : goal.decreases-loop-task
decreases-loop-task l = steps_left l.self (progress l.walk)
