use Rattle.std.proofs.Common.{take, ◌≤◌}
use Rattle.aa_glob.specs.Built.{IsBuilt}
use Rattle.aa_glob.specs.States.{state_count}
use Rattle.aa_profile_conflicts.specs.States.{exec_patterns, most_exec_states}
use Rattle.aa_profile_conflicts.proofs.states.has_many_states.Given as goal

-- the patterns so far are built, and have no more states than they may
abbrev pub invariant-loop-rule : goal.invariant-loop-rule
invariant-loop-rule l =
    IsBuilt l.builder (exec_patterns (take l.rule-index l.rules)) × (state_count (exec_patterns (take l.rule-index l.rules)) ≤ most_exec_states)
