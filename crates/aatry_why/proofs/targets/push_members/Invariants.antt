use Rattle.std.proofs.Common.{◌≡◌, ◌++◌, length}
use Rattle.aa_decide_ready.specs.Slots.{filled}
use Rattle.aa_profile_data.specs.Stacks.{parts_of}
use Rattle.aatry_uncertain.specs.SeenHeads.{all_left_out}
use Rattle.aatry_why.specs.Targets.{told_of_names}
use Rattle.aatry_why.proofs.targets.push_members.Given as goal

-- the text so far, with what is told of the names that are left, is all
abbrev pub invariant-loop-more : goal.invariant-loop-more
invariant-loop-more l =
    let text = told_of_names l.teller.form l.left_out.base.now (filled l.slots) (all_left_out l.left_out.heads.items) in
    l.out.items ++ text (parts_of l.rest) ≡ l.initial.out.items ++ text (parts_of l.members)

abbrev pub decreases-loop-more : goal.decreases-loop-more
decreases-loop-more l = length l.rest
