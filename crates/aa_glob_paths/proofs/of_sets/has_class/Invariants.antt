use Rattle.std.proofs.Common.{◌≡◌, false, take}
use Rattle.aa_glob_paths.specs.code.AllTexts.{has_class}
use Rattle.aa_glob_paths.proofs.of_sets.has_class.Given as goal

abbrev pub invariant-loop-place : goal.invariant-loop-place
invariant-loop-place l = has_class l.classes l.class (take l.place-index l.places) ≡ false
