use Rattle.std.proofs.Common.{take}
use Rattle.aa_decide_ready.specs.code.Parts.{ArePartsOf}
use Rattle.aa_decide_ready.proofs.part.parts_of.Given as goal

abbrev pub invariant-loop-child : goal.invariant-loop-child
invariant-loop-child l = ArePartsOf l.parts.items (take l.child-index l.children)
