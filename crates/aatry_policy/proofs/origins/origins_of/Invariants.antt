use Rattle.std.proofs.Common.{◌≡◌, ◌++◌}
use Rattle.aatry_policy.specs.Origins.{file_origins}
use Rattle.aatry_policy.proofs.origins.origins_of.Given as goal

-- the origins so far, with those of the profiles that are left, are all
abbrev pub invariant-loop-own : goal.invariant-loop-own
invariant-loop-own l = l.origins.items ++ file_origins l.file l.rest l.own-iterator.rest.items ≡ file_origins l.file l.profiles l.fn.places.items
