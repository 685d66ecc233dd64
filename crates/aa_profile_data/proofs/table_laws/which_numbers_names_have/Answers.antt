use Rattle.aa_profile_data.specs.Capabilities as capabilities
use Rattle.aa_profile_data.specs.Domains as domains
use Rattle.aa_profile_data.specs.Kinds as kinds
use Rattle.aa_profile_data.proofs.NumberLemmas.{number-below}
use Rattle.aa_profile_data.proofs.table_laws.which_numbers_names_have.Goals as goal

pub returns-clause-capabilities_are_below_41 : goal.returns-clause-capabilities_are_below_41
returns-clause-capabilities_are_below_41 c name = number-below 0 capabilities.names name

pub returns-clause-domains_are_below_44 : goal.returns-clause-domains_are_below_44
returns-clause-domains_are_below_44 c name = number-below 0 domains.names name

pub returns-clause-kinds_are_below_9 : goal.returns-clause-kinds_are_below_9
returns-clause-kinds_are_below_9 c name = number-below 0 kinds.names name
