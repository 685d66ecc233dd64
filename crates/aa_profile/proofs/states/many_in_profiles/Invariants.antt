use Rattle.std.proofs.Common.{◌≡◌, length, map}
use Rattle.aa_profile.specs.States.{many_in_profiles}
use Rattle.aa_profile_grammar.specs.SeenFiles.{seen_profile}
use Rattle.aa_profile.proofs.states.many_in_profiles.Given as goal

-- none of the profiles before has such a block, so what is left decides
abbrev pub invariant-loop-rest : goal.invariant-loop-rest
invariant-loop-rest l = many_in_profiles (map seen_profile l.rest) l.made ≡ many_in_profiles (map seen_profile l.written) l.profiles

abbrev pub decreases-loop-rest : goal.decreases-loop-rest
decreases-loop-rest l = length l.rest
