-- Errors of the code that are the refusals of the definitions.
use Rattle.std.specs.Prelude.{◌≡◌, ◌≢◌, Option, Some, Result, IfErr}
use Rattle.aa_profile_parsing.specs.ProfileError.{plain}
use Rattle.aa_profile_parsing.specs.declared.profile_error.ProfileError.{ProfileError}
use Rattle.aa_profile_parsing.specs.declared.profile_error.ProfileRefusal.TheVariants.{Memory}

-- an error of the code is the refusal that the definitions give, unless memory ran out
abbrev pub IsRefusal : {X : Type 0} → Option ProfileError → Result X ProfileError → Type 0
IsRefusal refusal result = IfErr result (λ error. error ≢ plain Memory → refusal ≡ Some error)
