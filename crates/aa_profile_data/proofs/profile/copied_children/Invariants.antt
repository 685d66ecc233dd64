use Rattle.std.proofs.Common.{◌≡◌, take}
use Rattle.aa_profile_data.proofs.profile.copied_children.Given as goal

abbrev pub invariant-loop-child : goal.invariant-loop-child
invariant-loop-child l = l.copies.items ≡ take l.child-index l.children
