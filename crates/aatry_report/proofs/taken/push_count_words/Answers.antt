use Rattle.std.proofs.Common.{append_assoc}
use Rattle.aatry_report.proofs.taken.push_count_words.Goals as goal

pub returns : goal.returns
returns c = rw (c.in_ok-extend_from_slice.ensures.items, c.in_ok-push_number.ensures, c.as_bytes.ensures.value) (simp append_assoc)
