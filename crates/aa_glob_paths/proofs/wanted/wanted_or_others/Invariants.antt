use Rattle.std.proofs.Common.{◌≡◌, map, take}
use Rattle.aa_glob_paths.specs.Wanted.{wanted_or_other}
use Rattle.aa_glob_paths.proofs.wanted.wanted_or_others.Given as goal

abbrev pub invariant-loop-class : goal.invariant-loop-class
invariant-loop-class l = l.others.items ≡ map wanted_or_other (take l.class-index l.classes)
