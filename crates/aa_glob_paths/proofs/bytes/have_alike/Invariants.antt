use Rattle.std.proofs.Common.{take}
use Rattle.aa_glob_paths.specs.code.Apart.{HaveAlike}
use Rattle.aa_glob_paths.proofs.bytes.have_alike.Given as goal

abbrev pub invariant-loop-class : goal.invariant-loop-class
invariant-loop-class l = HaveAlike (take l.class-index l.classes) l.one l.other
