-- What is known of the numbers in the rules of profiles (docs/policy.md, "Tables").
use Rattle.std.specs.Prelude.{Bool, true, ◌&&◌}
use Rattle.std.specs.List.{list_all}
use Rattle.aa_profile_data.specs.declared.profile.Child.{Child}
use Rattle.aa_profile_data.specs.declared.profile.Profile.{Profile}
use Rattle.aa_profile_data.specs.declared.profile.Rule.{Rule}
use Rattle.aa_profile_data.specs.declared.profile.Rule.TheVariants.{Cap, File, Net, Other}
use Rattle.aa_profile_data.specs.KnownNumbers.{are_capabilities, is_domain, is_kind}

-- every number of a rule is in the tables
abbrev pub has_known_numbers : Rule → Bool
has_known_numbers (File rule) = true
has_known_numbers (Cap rule) = are_capabilities rule.caps
has_known_numbers (Net rule) = is_domain rule.domain && is_kind rule.kind
has_known_numbers (Other rule) = true

-- every number in the rules of a child or a hat is
abbrev pub child_has_known_numbers : Child → Bool
child_has_known_numbers child = list_all has_known_numbers child.rules

-- every number in the rules of a profile, and of its children and hats, is
abbrev pub profile_has_known_numbers : Profile → Bool
profile_has_known_numbers profile = list_all has_known_numbers profile.rules && list_all child_has_known_numbers profile.children
