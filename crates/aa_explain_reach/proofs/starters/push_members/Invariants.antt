use Rattle.std.proofs.Common.{◌≡◌, ◌++◌, List, length}
use Rattle.std.specs.Prelude.{Option}
use Rattle.aa_decide.specs.Exec.{Asker}
use Rattle.aa_decide_ready.specs.Slots.{filled}
use Rattle.aa_profile_data.specs.Stacks.{parts_of}
use Rattle.aa_explain_reach.specs.Starters.{member_starters}
use Rattle.aa_explain_reach.specs.code.Going.{Appends}
use Rattle.aa_explain_reach.proofs.starters.push_members.Given as goal

-- those so far, with those of the rest, are all
abbrev pub invariant-loop-more : goal.invariant-loop-more
invariant-loop-more l =
    (done : List (Option Asker))
    × (done ++ member_starters (filled l.slots) (parts_of l.rest) ≡ member_starters (filled l.slots) (parts_of l.members))
    × Appends l.slots done l.initial.starters.items l.starters.items

abbrev pub decreases-loop-more : goal.decreases-loop-more
decreases-loop-more l = length l.rest
