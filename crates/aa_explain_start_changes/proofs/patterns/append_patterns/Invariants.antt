use Rattle.std.proofs.Common.{◌≡◌, ◌++◌}
use Rattle.aa_explain_start_changes.proofs.patterns.append_patterns.Given as goal

-- those so far, with those that are left, are all
abbrev pub invariant-loop-pattern : goal.invariant-loop-pattern
invariant-loop-pattern l = l.patterns.items ++ l.pattern-iterator.rest.items ≡ l.initial.patterns.items ++ l.fn.more.items
