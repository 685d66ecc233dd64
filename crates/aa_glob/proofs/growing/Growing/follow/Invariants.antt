use Rattle.std.proofs.Common.{length}
use Rattle.aa_glob_pattern.specs.Left.{left_in}
use Rattle.aa_glob.specs.code.Followed.{IsFollowing}
use Rattle.aa_glob.proofs.growing.Growing.follow.Given as goal

abbrev pub invariant-loop-element : goal.invariant-loop-element
invariant-loop-element l = IsFollowing l.fn.self l.text l.self l.walk (left_in l.elements)

abbrev pub decreases-loop-element : goal.decreases-loop-element
decreases-loop-element l = length (left_in l.elements)
