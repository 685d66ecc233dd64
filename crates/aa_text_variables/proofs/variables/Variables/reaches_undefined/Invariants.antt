use Rattle.std.proofs.Common.{◌-◌, length}
use Rattle.aa_text_variables.specs.code.ReachedVariables.{IsReachedSoFar}
use Rattle.aa_text_variables.proofs.variables.Variables.reaches_undefined.Given as goal

-- the words of the indexes before this one were looked at
abbrev pub invariant-loop-index : goal.invariant-loop-index
invariant-loop-index l = IsReachedSoFar l.self l.text l.reached.keys l.at

abbrev pub decreases-loop-index : goal.decreases-loop-index
decreases-loop-index l = length l.self - l.at
