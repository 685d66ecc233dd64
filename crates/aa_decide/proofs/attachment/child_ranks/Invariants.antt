use Rattle.std.proofs.Common.{◌≡◌, map, take}
use Rattle.aa_decide_rules.specs.Ranks.{best_rank}
use Rattle.aa_decide.proofs.attachment.child_ranks.Given as goal

abbrev pub invariant-loop-place : goal.invariant-loop-place
invariant-loop-place l = l.ranks.items ≡ map (λ child. best_rank l.path child.attachments) (take l.place l.ready.children)
