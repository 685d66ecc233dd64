use Rattle.std.proofs.Common.{◌≡◌, ◌≤◌, ◌+◌, length, map}
use Rattle.std.specs.Prelude.{count_by}
use Rattle.aatry_check_rules.specs.Finding.{is_absent}
use Rattle.aatry_policy.specs.SeenProfiles.{seen_part}
use Rattle.aatry_check_rules.proofs.summary.absent_count.Given as goal

-- the count so far and the others are all, and they are no more than the names
abbrev pub invariant-loop-rest : goal.invariant-loop-rest
invariant-loop-rest l =
    let absent = is_absent (map seen_part l.parts) in
    record {
      all : l.count + count_by absent (map (λ name. name.now) l.rest) ≡ count_by absent (map (λ name. name.now) l.names);
      few : l.count + length l.rest ≤ length l.names;
    }

abbrev pub decreases-loop-rest : goal.decreases-loop-rest
decreases-loop-rest l = length l.rest
