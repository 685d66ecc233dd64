use Rattle.std.proofs.Common.{◌≡◌, ◌++◌, ◌+◌, length}
use Rattle.aa_explain_reach.specs.code.LedTo.{not_led_to_from}
use Rattle.aa_explain_reach.proofs.unattached.all_not_led_to.Given as goal

-- those so far, with those of the slots that are left, are all
abbrev pub invariant-loop-rest : goal.invariant-loop-rest
invariant-loop-rest l = record {
  same : l.places.items ++ not_led_to_from l.starts l.slot l.rest ≡ not_led_to_from l.starts 0 l.slots;
  count : l.slot + length l.rest ≡ length l.slots;
}

abbrev pub decreases-loop-rest : goal.decreases-loop-rest
decreases-loop-rest l = length l.rest
