use Rattle.std.proofs.Common.{◌≡◌, length, map}
use Rattle.aa_profile.specs.States.{many_in_members}
use Rattle.aa_profile_grammar.specs.SeenFiles.{seen_member}
use Rattle.aa_profile.proofs.states.many_in_members.Given as goal

-- none of the members before is such a child, so what is left decides
abbrev pub invariant-loop-rest : goal.invariant-loop-rest
invariant-loop-rest l = many_in_members (map seen_member l.rest) l.made ≡ many_in_members (map seen_member l.members) l.children

abbrev pub decreases-loop-rest : goal.decreases-loop-rest
decreases-loop-rest l = length l.rest
