use Rattle.std.proofs.Common.{refl}
use Rattle.aa_text_files.proofs.files.FilesError.number.Goals as goal

pub returns-in-Twice : goal.returns-in-Twice
returns-in-Twice c = rw c.in-Twice.is refl
