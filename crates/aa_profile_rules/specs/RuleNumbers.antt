-- What is known of the numbers in rules (docs/policy.md, "Tables").
use Rattle.std.specs.Prelude.{Bool, true, ◌&&◌}
use Rattle.aa_profile_data.specs.KnownNumbers.{are_capabilities, is_domain, is_kind}
use Rattle.aa_profile_rules.specs.Rules.{All, Kept, OnCapabilities, OnFile, OnNetwork, Rule}
use Rattle.aa_profile_rules.specs.declared.networks.Sockets.{Sockets}

-- the numbers of sockets are in the tables
abbrev pub are_sockets : Sockets → Bool
are_sockets sockets = is_domain sockets.domain && is_kind sockets.kind

-- every number of a rule is in the tables
abbrev pub has_known_numbers : Rule → Bool
has_known_numbers (OnFile qualifiers pattern access target) = true
has_known_numbers (OnCapabilities qualifiers word capabilities) = are_capabilities capabilities
has_known_numbers (OnNetwork qualifiers word sockets) = are_sockets sockets
has_known_numbers (Kept qualifiers tokens) = true
has_known_numbers (All qualifiers word) = true
