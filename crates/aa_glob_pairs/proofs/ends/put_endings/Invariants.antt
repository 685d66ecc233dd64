use Rattle.std.proofs.Common.{take}
use Rattle.aa_glob_pairs.specs.code.Gathered.{AreGathered}
use Rattle.aa_glob_pairs.proofs.ends.put_endings.Given as goal

abbrev pub invariant-loop-end : goal.invariant-loop-end
invariant-loop-end l = AreGathered l.classes (take l.end-index l.end-items) l.endings.items
