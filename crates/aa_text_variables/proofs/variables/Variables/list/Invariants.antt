use Rattle.std.proofs.Common.{◌-◌, ◌≤◌, length}
use Rattle.aa_text_variables.specs.code.ExpansionTables.{AreListed}
use Rattle.aa_text_variables.proofs.variables.Variables.list.Given as goal

-- there are lists of the indexes so far
abbrev pub invariant-loop-index : goal.invariant-loop-index
invariant-loop-index l = record {
  listed : AreListed l.self l.order.keys l.numbers.items l.lists;
  fewer : length l.numbers.items ≤ length l.order.keys;
}

abbrev pub decreases-loop-index : goal.decreases-loop-index
decreases-loop-index l = length l.order.keys - length l.numbers.items
