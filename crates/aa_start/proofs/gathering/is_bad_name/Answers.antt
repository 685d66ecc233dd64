use Rattle.aa_start.proofs.NameLemmas.{is_bad_name-parts}
use Rattle.aa_start.proofs.gathering.is_bad_name.Goals as goal

pub returns-else-is_empty : goal.returns-else-is_empty
returns-else-is_empty c = rw (is_bad_name-parts c.args.name.now, ← c.if-is_empty.ensures) c.has_control.ensures
