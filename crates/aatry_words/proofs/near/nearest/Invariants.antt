use Rattle.std.proofs.Common.{◌≡◌, length, map}
use Rattle.aatry_words.specs.Near.{begun, behind_all}
use Rattle.aatry_words.specs.code.SoFar.{seen_so_far}
use Rattle.aatry_words.proofs.near.nearest.Given as goal

-- from here on it ends as from the beginning
abbrev pub invariant-loop-rest : goal.invariant-loop-rest
invariant-loop-rest l =
    behind_all l.word (seen_so_far l.so_far) (map (λ name. name.now) l.rest) ≡ behind_all l.word (begun l.word) (map (λ name. name.now) l.names)

abbrev pub decreases-loop-rest : goal.decreases-loop-rest
decreases-loop-rest l = length l.rest
