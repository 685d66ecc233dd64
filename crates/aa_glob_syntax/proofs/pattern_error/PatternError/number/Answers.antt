use Rattle.std.proofs.Common.{refl}
use Rattle.aa_glob_syntax.proofs.pattern_error.PatternError.number.Goals as goal

pub returns-in-BadRange : goal.returns-in-BadRange
returns-in-BadRange c = rw c.in-BadRange.is refl
