-- What the code's rules are as the definitions see them.
use Rattle.std.specs.Option.{option_map}
use Rattle.aa_text_tokens.specs.SeenSplicedTokens.{seen_spliced}
use Rattle.aa_profile_parsing.specs.SeenTokens.{seen_tokens}
use Rattle.aa_profile_rules.specs.Rules.{All, OnCapabilities, OnFile, OnNetwork, Kept, Rule as SeenRule}
use Rattle.aa_profile_rules.specs.declared.rules.Rule.{Rule}
use Rattle.aa_profile_rules.specs.declared.rules.Rule.TheVariants as rule

-- a rule of the code
abbrev pub seen_rule : Rule → SeenRule
seen_rule (rule.OnFile qualifiers pattern access target) = OnFile qualifiers (seen_spliced pattern) access (option_map seen_spliced target)
seen_rule (rule.OnCapabilities qualifiers word capabilities) = OnCapabilities qualifiers (seen_spliced word) capabilities
seen_rule (rule.OnNetwork qualifiers word sockets) = OnNetwork qualifiers (seen_spliced word) sockets
seen_rule (rule.Kept qualifiers tokens) = Kept qualifiers (seen_tokens tokens.now)
seen_rule (rule.All qualifiers word) = All qualifiers (seen_spliced word)
