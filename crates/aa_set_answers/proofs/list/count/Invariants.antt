use Rattle.std.proofs.Common.{◌≡◌, ◌≤◌, ◌+◌, ◌*◌, ◌^◌, length}
use Rattle.aa_decide_ready.specs.Slots.{filled}
use Rattle.aa_set_answers.specs.List.{count}
use Rattle.aa_set_answers.proofs.list.count.Given as goal

-- the count so far, with that of the slots that are left, is all; and each slot so far has added no more than a slice can hold, and one
abbrev pub invariant-loop-rest : goal.invariant-loop-rest
invariant-loop-rest l = record {
  all : l.count + count (filled l.rest) ≡ count (filled l.slots);
  most : l.count + length l.rest * 2 ^ 64 ≤ length l.slots * 2 ^ 64;
}

abbrev pub decreases-loop-rest : goal.decreases-loop-rest
decreases-loop-rest l = length l.rest
