use Rattle.std.proofs.Common.{◌≡◌, ◌++◌}
use Rattle.aatry_policy.proofs.policy.push_all.Given as goal

-- the origins so far, with those that are left, are all
abbrev pub invariant-loop-origin : goal.invariant-loop-origin
invariant-loop-origin l = l.origins.items ++ l.origin-iterator.rest.items ≡ l.initial.origins.items ++ l.fn.own.items
