use Rattle.std.proofs.Common.{append_assoc}
use Rattle.aatry_test.proofs.comparing.push_passed.Goals as goal

pub returns : goal.returns
returns c =
    rw (c.in_ok-push.ensures.items, c.in_ok-push_count.ensures, c.in_ok-push_number.ensures, c.in_ok-push_shown.ensures) (simp append_assoc)
