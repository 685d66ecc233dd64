use Rattle.std.proofs.Common.{◌≡◌, length}
use Rattle.aa_profile_data.specs.Stacks.{are_full_names}
use Rattle.aa_profile_data.proofs.stacks.are_full_names.Given as goal

-- the rest decides
abbrev pub invariant-loop-more : goal.invariant-loop-more
invariant-loop-more l = are_full_names l.rest ≡ are_full_names l.text

abbrev pub decreases-loop-more : goal.decreases-loop-more
decreases-loop-more l = length l.rest
