use Rattle.std.proofs.Common.{refl}
use Rattle.aa_text_files.proofs.text_error.TextRefusal.name.Goals as goal

pub returns-in-Cycle : goal.returns-in-Cycle
returns-in-Cycle c = rw c.in-Cycle.is refl
