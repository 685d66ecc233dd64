use Rattle.std.proofs.Common.{◌∙◌}
use Rattle.aa_start.proofs.NameLemmas.{has_file-names}
use Rattle.aa_start.proofs.gathering.is_refused.Goals as goal

pub returns-else-is_bad_name : goal.returns-else-is_bad_name
returns-else-is_bad_name c = rw (← c.if-is_bad_name.ensures) (c.has.ensures ∙ has_file-names c.args.files.now c.args.name.now)
