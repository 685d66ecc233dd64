use Rattle.aa_profile_rules.proofs.NarrowLemmas.{rule-narrow}
use Rattle.aa_profile_rules.proofs.laws.which_rules_language_3_has.Goals as goal

pub returns : goal.returns
returns c tokens =
    let none = c.no_name_is_a_stack.ensures in
    rule-narrow (record { full_names = none.full_names; names = none.names }) tokens
