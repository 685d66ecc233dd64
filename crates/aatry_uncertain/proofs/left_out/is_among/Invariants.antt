use Rattle.std.proofs.Common.{◌≡◌, length}
use Rattle.std.specs.List.{list_any}
use Rattle.std.specs.Str.{bytes_eq}
use Rattle.aatry_uncertain.specs.SeenHeads.{all_left_out}
use Rattle.aatry_uncertain.proofs.left_out.is_among.Given as goal

-- among the heads that are left is one of the name where among all there is
abbrev pub invariant-loop-rest : goal.invariant-loop-rest
invariant-loop-rest l =
    list_any (λ left_out. bytes_eq left_out.head.name l.name) (all_left_out l.rest)
    ≡ list_any (λ left_out. bytes_eq left_out.head.name l.name) (all_left_out l.heads)

abbrev pub decreases-loop-rest : goal.decreases-loop-rest
decreases-loop-rest l = length l.rest
