use Rattle.std.proofs.Common.{sym, ◌∙◌}
use Rattle.aa_set_manager.proofs.places.found_for.Goals as goal

pub returns-then-is_refused_at-clause-grounds : goal.returns-then-is_refused_at-clause-grounds
returns-then-is_refused_at-clause-grounds c = λ other. sym (c.is_refused_at.ensures c.args.profiles.now (c.deref.ensures.value ∙ c.in-Ok.ensures)) ∙ c.if-is_refused_at.true

pub returns-else-is_refused_at-clause-ok : goal.returns-else-is_refused_at-clause-ok
returns-else-is_refused_at-clause-ok c = sym (c.is_refused_at.ensures c.args.profiles.now (c.deref.ensures.value ∙ c.in-Ok.ensures)) ∙ c.if-is_refused_at.false
