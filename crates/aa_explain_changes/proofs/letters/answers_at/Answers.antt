use Rattle.aa_explain_changes.proofs.letters.answers_at.Goals as goal

pub matched_verdict-requires : goal.matched_verdict-requires
matched_verdict-requires c = record { found = c.requires.old.found; rise = c.requires.old.rise }

pub matched_verdict-requires-2 : goal.matched_verdict-requires-2
matched_verdict-requires-2 c = record { found = c.requires.new.found; rise = c.requires.new.rise }
