use Rattle.std.proofs.Common.{◌≡◌, ◌++◌, length}
use Rattle.aatry_policy.specs.LeftOut.{told_files}
use Rattle.aatry_policy.specs.SeenLeftOut.{all_left_out, seen_words}
use Rattle.aatry_policy.proofs.left_out.push_files.Given as goal

-- the text so far, with what is told of the files that are left, is all
abbrev pub invariant-loop-rest : goal.invariant-loop-rest
invariant-loop-rest l =
    let told = told_files l.teller.form (seen_words l.words) l.folder.language l.folder.base.now l.folder.files l.folder.unread.items in
    l.out.items ++ told (all_left_out l.rest) ≡ l.initial.out.items ++ told (all_left_out l.files)

abbrev pub decreases-loop-rest : goal.decreases-loop-rest
decreases-loop-rest l = length l.rest
