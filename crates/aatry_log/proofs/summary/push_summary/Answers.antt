use Rattle.aatry_log.proofs.summary.push_summary.Goals as goal

pub returns : goal.returns
returns c = rw (c.deref.ensures.value, c.in_ok-fields.ensures) at c.tell.ensures
