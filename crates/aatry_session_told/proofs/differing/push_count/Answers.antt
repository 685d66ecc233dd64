use Rattle.std.proofs.Common.{append_assoc}
use Rattle.aatry_session_told.proofs.differing.push_count.Goals as goal

pub returns : goal.returns
returns c = rw (c.in_ok-push.ensures.items, c.in_ok-push_number-2.ensures, c.in_ok-push_number.ensures) (simp append_assoc)
