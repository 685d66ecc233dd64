use Rattle.std.proofs.Common.{◌≡◌, length}
use Rattle.std.specs.List.{fold}
use Rattle.aa_profile_data.specs.Stacks.{parts_of}
use Rattle.aa_set_answers.specs.StackNames.{put_name}
use Rattle.aa_set_answers.specs.code.SeenNames.{seen_names}
use Rattle.aa_set_answers.proofs.stacks.put_members.Given as goal

-- the names so far, with those of the rest put among them, are all
abbrev pub invariant-loop-more : goal.invariant-loop-more
invariant-loop-more l = fold put_name (seen_names l.names) (parts_of l.rest) ≡ fold put_name (seen_names l.initial.names) (parts_of l.members)

abbrev pub decreases-loop-more : goal.decreases-loop-more
decreases-loop-more l = length l.rest
