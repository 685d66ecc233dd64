use Rattle.std.proofs.Common.{◌≡◌, true}
use Rattle.std.specs.List.{list_all}
use Rattle.aa_profile_data.specs.Numbers.{profile_has_known_numbers}
use Rattle.aa_profile.proofs.NumberLemmas.{profiles-known}
use Rattle.aa_profile.proofs.ReadingLemmas.{file-fits}
use Rattle.aa_profile.proofs.laws.which_numbers_rules_have.Goals as goal

pub returns : goal.returns
returns c language files name = file-fits language (λ profiles. list_all profile_has_known_numbers profiles ≡ true) (λ variables tokens written is fine. profiles-known c.which_numbers_rules_have.ensures language variables tokens written is) files name
