use Rattle.std.proofs.Common.{◌≡◌, ◌≤◌, ◌+◌, length}
use Rattle.std.specs.Prelude.{fold}
use Rattle.aa_decide_ready.specs.Slots.{filled}
use Rattle.aatry_log_rules.specs.Gathered.{gathered, seen_wants, with_tally}
use Rattle.aatry_requests.specs.SeenTallies.{seen_all}
use Rattle.aatry_log_rules.proofs.gathering.gather_wants.Given as goal

-- what was gathered, and the requests that are left, make all
abbrev pub invariant-loop-tally : goal.invariant-loop-tally
invariant-loop-tally l =
    let entries = filled l.fn.slots in
    let left = l.tally-iterator.rest.items in
    let all = l.initial.tally-iterator.rest.items in
    record {
      gathered : fold (with_tally entries) (seen_wants l.wants) (seen_all left) ≡ gathered entries (seen_all all);
      few : l.wants.nobody + length left ≤ length all;
    }
