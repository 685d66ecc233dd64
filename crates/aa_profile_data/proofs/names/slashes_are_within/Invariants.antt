use Rattle.std.proofs.Common.{◌≡◌, length}
use Rattle.aa_profile_data.specs.Names.{slashes_are_within}
use Rattle.aa_profile_data.proofs.names.slashes_are_within.Given as goal

-- the rest decides
abbrev pub invariant-loop-rest : goal.invariant-loop-rest
invariant-loop-rest l = slashes_are_within l.rest ≡ slashes_are_within l.text

abbrev pub decreases-loop-rest : goal.decreases-loop-rest
decreases-loop-rest l = length l.rest
