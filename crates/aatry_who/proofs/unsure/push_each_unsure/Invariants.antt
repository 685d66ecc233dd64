use Rattle.std.proofs.Common.{◌≡◌, ◌++◌, length}
use Rattle.aa_decide_ready.specs.Slots.{filled}
use Rattle.aatry_uncertain.specs.SeenHeads.{all_left_out}
use Rattle.aatry_who.specs.Unsure.{unsure_lines}
use Rattle.aatry_who.proofs.unsure.push_each_unsure.Given as goal

-- the text so far, with what is told of the heads that are left, is all
abbrev pub invariant-loop-rest : goal.invariant-loop-rest
invariant-loop-rest l =
    let text = unsure_lines l.teller.form l.base (filled l.slots) in
    l.out.items ++ text (all_left_out l.rest) ≡ l.initial.out.items ++ text (all_left_out l.heads)

abbrev pub decreases-loop-rest : goal.decreases-loop-rest
decreases-loop-rest l = length l.rest
