use Rattle.std.proofs.Common.{◌≡◌, take, drop}
use Rattle.aa_profile_data.specs.Stacks.{parts_of}
use Rattle.aa_profile_data.proofs.StackLemmas.{onto}
use Rattle.aa_profile_data.proofs.stacks.first_member.Given as goal

-- the bytes so far, before what the rest is cut into, are what the whole is cut into
abbrev pub invariant-loop-at : goal.invariant-loop-at
invariant-loop-at l = onto (take l.at l.text) (parts_of (drop l.at l.text)) ≡ parts_of l.text
