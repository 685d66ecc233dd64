use Rattle.std.proofs.Common.{◌-◌, length}
use Rattle.aa_text_variables.specs.code.ExpansionTables.{AreFirstCounts}
use Rattle.aa_text_variables.proofs.variables.Variables.counts.Given as goal

-- the indexes so far are counted
abbrev pub invariant-loop-index : goal.invariant-loop-index
invariant-loop-index l = AreFirstCounts l.self l.order.keys l.counts.items

abbrev pub decreases-loop-index : goal.decreases-loop-index
decreases-loop-index l = length l.order.keys - length l.counts.items
