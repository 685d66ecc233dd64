use Rattle.std.proofs.Common.{◌≡◌, map, take}
use Rattle.aa_decide.specs.code.SlotRanks.{slot_rank}
use Rattle.aa_decide_ready.specs.Slots.{entry_at}
use Rattle.aa_decide.proofs.attachment.ranks_at.Given as goal

abbrev pub invariant-loop-place : goal.invariant-loop-place
invariant-loop-place l = l.ranks.items ≡ map (λ slot. slot_rank l.path (entry_at l.slots slot)) (take l.place-index l.places)
