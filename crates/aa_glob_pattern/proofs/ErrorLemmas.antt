-- Facts that hold whatever an error is.
use Rattle.std.proofs.Common.{◌≡◌, Result, Ok, Err, IfErr}
use Rattle.aa_glob_syntax.specs.declared.pattern_error.PatternError.{PatternError}
use Rattle.aa_glob_syntax.specs.declared.pattern_error.PatternError.TheVariants.{Memory}

-- whatever an error is, what holds anyway does
pub err_anyway : {A : Type 0} (r : Result A PatternError) (P : Type 0) → P → IfErr r (λ error. error ≡ Memory → P)
err_anyway (Ok value) P holds = tt
err_anyway (Err error) P holds = λ memory. holds
