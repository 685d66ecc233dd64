use Rattle.std.proofs.Common.{◌≡◌, ◌++◌, length}
use Rattle.aa_decide_ready.specs.Slots.{filled}
use Rattle.aatry_who.specs.Letting.{who_lines}
use Rattle.aatry_who.specs.Sought.{seen_sought}
use Rattle.aatry_who.proofs.letting.push_slots.Given as goal

-- the text so far, with the lines of what is left, is all
abbrev pub invariant-loop-rest : goal.invariant-loop-rest
invariant-loop-rest l =
    let told = who_lines l.teller.form (seen_sought l.sought) in
    l.text.items ++ told (filled l.rest) ≡ l.initial.text.items ++ told (filled l.slots)

abbrev pub decreases-loop-rest : goal.decreases-loop-rest
decreases-loop-rest l = length l.rest
