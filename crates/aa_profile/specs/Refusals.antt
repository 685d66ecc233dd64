-- The refusals in reading a file.
use Rattle.std.specs.Prelude.{◌≡◌, ◌≢◌, Result, Err, IfErr}
use Rattle.aa_profile_parsing.specs.ProfileError.{plain}
use Rattle.aa_profile_parsing.specs.declared.profile_error.ProfileError.{ProfileError}
use Rattle.aa_profile_parsing.specs.declared.profile_error.ProfileRefusal.TheVariants.{Memory}

-- an error of the code is the refusal that the definitions give, unless memory ran out
abbrev pub IsRefusalOf : {X Y : Type 0} → Result Y ProfileError → Result X ProfileError → Type 0
IsRefusalOf given result = IfErr result (λ error. error ≢ plain Memory → given ≡ Err error)
