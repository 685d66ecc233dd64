use Rattle.aa_profile_rules.proofs.NumberLemmas.{rule-known}
use Rattle.aa_profile_rules.proofs.laws.which_numbers_rules_have.Goals as goal

pub returns : goal.returns
returns c language tokens =
    let names = c.which_numbers_names_have.ensures in
    rule-known (record { capabilities = names.capabilities_are_below_41; domains = names.domains_are_below_44; kinds = names.kinds_are_below_9 }) language tokens
