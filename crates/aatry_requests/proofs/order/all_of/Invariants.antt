use Rattle.std.proofs.Common.{◌≡◌, take}
use Rattle.aatry_requests.specs.SeenTallies.{seen_all}
use Rattle.aatry_requests.proofs.order.all_of.Given as goal

-- those so far are the first
abbrev pub invariant-loop-place : goal.invariant-loop-place
invariant-loop-place l = seen_all l.all.items ≡ take l.place l.tallies
