use Rattle.std.specs.List.{All}
use Rattle.aa_profile_parsing.specs.declared.language.Language.TheVariants.{Three}
use Rattle.aa_profile.proofs.NarrowLemmas.{profiles-narrow}
use Rattle.aa_profile.proofs.ReadingLemmas.{file-fits}
use Rattle.aa_profile.proofs.laws.what_language_3_has_not.Goals as goal
use Rattle.aa_profile.specs.NarrowProfiles.{IsNarrow}

pub returns : goal.returns
returns c files name =
    let rules = c.which_rules_language_3_has.ensures in
    let flagged = c.which_mode_flags_language_3_has.ensures in
    file-fits Three (All IsNarrow) (λ variables tokens written is fine. profiles-narrow rules flagged variables tokens written is) files name
