use Rattle.std.proofs.Common.{take}
use Rattle.aa_decide_ready.specs.Indexes.{IsNameIndexOf}
use Rattle.aa_decide_ready.proofs.names.NameIndex.of.Given as goal

abbrev pub invariant-loop-place : goal.invariant-loop-place
invariant-loop-place l = IsNameIndexOf l.index (take l.place l.slots)
