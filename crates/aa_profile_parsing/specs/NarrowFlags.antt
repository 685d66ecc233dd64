-- FLAGS as language 3 has them (docs/policy.md, "Languages").
use Rattle.std.specs.Prelude.{◌≢◌, Some}
use Rattle.aa_profile_parsing.specs.declared.flags.Flags.{Flags}
use Rattle.aa_profile_parsing.specs.declared.flags.ModeFlag.TheVariants.{DefaultAllow, Unconfined}

-- the mode flag of flags, if they have one, is none of language 4 alone
abbrev pub HasNarrowMode : Flags → Type 0
HasNarrowMode flags = (flags.mode ≢ Some Unconfined) × (flags.mode ≢ Some DefaultAllow)
