use Rattle.aatry_log.proofs.heads.push_spanned.Goals as goal

pub returns : goal.returns
returns c =
    rw (c.deref.ensures.value, c.deref-2.ensures.value, c.deref-3.ensures.value, c.in_ok-first.ensures, c.in_ok-last.ensures, c.in_ok-push_last.ensures, c.new-behind.ensures.items)
    at c.push_times_told.ensures
