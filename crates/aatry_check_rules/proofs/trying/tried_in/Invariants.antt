use Rattle.std.proofs.Common.{◌≡◌, ◌++◌, ◌+◌, length}
use Rattle.aatry_check_rules.specs.SeenWhich.{seen_which}
use Rattle.aatry_check_rules.specs.Written.{tried_from}
use Rattle.aatry_check_rules.proofs.trying.tried_in.Given as goal

-- those so far, with those of the rules that are left, are all
abbrev pub invariant-loop-rest : goal.invariant-loop-rest
invariant-loop-rest l = record {
  same : l.tried.items ++ tried_from (seen_which l.which) l.name l.places l.number l.rest ≡ tried_from (seen_which l.which) l.name l.places 0 l.rules;
  count : l.number + length l.rest ≡ length l.rules;
}

abbrev pub decreases-loop-rest : goal.decreases-loop-rest
decreases-loop-rest l = length l.rest
