use Rattle.std.proofs.Common.{◌≡◌, ◌++◌}
use Rattle.aatry_log_rules.proofs.wanted.WantedRules.all.Given as goal

-- those so far, and those that are left, are all
abbrev pub invariant-loop-wanted : goal.invariant-loop-wanted
invariant-loop-wanted l = l.all.items ++ l.wanted-iterator ≡ l.initial.wanted-iterator
