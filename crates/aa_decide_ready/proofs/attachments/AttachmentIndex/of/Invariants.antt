use Rattle.std.proofs.Common.{◌≡◌, take}
use Rattle.aa_glob.specs.Built.{IsBuilt}
use Rattle.aa_decide_ready.specs.Indexes.{all_attachments, owners_from}
use Rattle.aa_decide_ready.proofs.attachments.AttachmentIndex.of.Given as goal

-- the attachments of the slots so far were added, with the slot of each
abbrev pub invariant-loop-place : goal.invariant-loop-place
invariant-loop-place l = record {
  built : IsBuilt l.builder (all_attachments (take l.place l.slots));
  owners : l.owners.items ≡ owners_from 0 (take l.place l.slots);
}
