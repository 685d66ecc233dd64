use Rattle.std.proofs.Common.{refl}
use Rattle.aa_glob_syntax.proofs.pattern_error.PatternError.name.Goals as goal

pub returns-in-StrayClose : goal.returns-in-StrayClose
returns-in-StrayClose c = rw c.in-StrayClose.is refl
