use Rattle.std.proofs.Common.{◌≡◌, ◌≤◌, take}
use Rattle.aa_glob_pattern.specs.Beginnings.{most_states}
use Rattle.aa_profile_conflicts.specs.States.{exec_patterns, most_exec_states}
use Rattle.aa_profile_conflicts.proofs.states.may_have_many_states.Given as goal

-- the bytes of the patterns so far are counted, and are few
abbrev pub invariant-loop-rule : goal.invariant-loop-rule
invariant-loop-rule l = (l.most ≡ most_states (exec_patterns (take l.rule-index l.rules))) × (l.most ≤ most_exec_states)
