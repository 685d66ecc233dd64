use Rattle.std.proofs.Common.{◌≡◌, ◌++◌}
use Rattle.aa_explain_start_changes.proofs.patterns.append_rules.Given as goal

-- those so far, with those that are left, are all
abbrev pub invariant-loop-rule : goal.invariant-loop-rule
invariant-loop-rule l = l.rules.items ++ l.rule-iterator.rest.items ≡ l.initial.rules.items ++ l.fn.more.items
