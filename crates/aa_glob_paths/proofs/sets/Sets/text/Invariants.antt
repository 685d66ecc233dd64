use Rattle.std.proofs.Common.{ℕ, List, ◌++◌, ◌<◌, length}
use Rattle.aa_glob_paths.specs.Found.{IsFoundBehind}
use Rattle.aa_glob_paths.proofs.sets.Sets.text.Given as goal

-- the bytes so far, before the text of the set that is come to, are that of the number
abbrev pub invariant-loop-at : goal.invariant-loop-at
invariant-loop-at l = record {
  within : l.at < length l.self;
  behind : (past : List ℕ) → IsFoundBehind l.self l.at past → IsFoundBehind l.self l.number (l.text.items ++ past);
}

abbrev pub decreases-loop-at : goal.decreases-loop-at
decreases-loop-at l = l.at
