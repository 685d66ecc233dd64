use Rattle.std.proofs.Common.{◌≡◌, ◌++◌, flat_map, length}
use Rattle.aa_decide_ready.specs.Slots.{filled}
use Rattle.aa_set_answers.specs.List.{entry_lines}
use Rattle.aa_set_answers.proofs.list.push_slots.Given as goal

-- the text so far, with the lines of what is left, is all
abbrev pub invariant-loop-rest : goal.invariant-loop-rest
invariant-loop-rest l = l.text.items ++ flat_map entry_lines (filled l.rest) ≡ l.initial.text.items ++ flat_map entry_lines (filled l.slots)

abbrev pub decreases-loop-rest : goal.decreases-loop-rest
decreases-loop-rest l = length l.rest
