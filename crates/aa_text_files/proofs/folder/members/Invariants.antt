use Rattle.std.proofs.Common.{◌≤◌, length}
use Rattle.aa_text_files.proofs.FolderLemmas.{AreGathered}
use Rattle.aa_text_files.proofs.folder.members.Given as goal

-- the members from a place on are there
abbrev pub invariant-loop-at : goal.invariant-loop-at
invariant-loop-at l = record {
  found : AreGathered l.files l.at l.folder l.found.items;
  within : l.at ≤ length l.files;
}

abbrev pub decreases-loop-at : goal.decreases-loop-at
decreases-loop-at l = l.at
