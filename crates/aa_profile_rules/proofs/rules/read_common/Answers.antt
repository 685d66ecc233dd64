use Rattle.std.proofs.Common.{rules}
use Rattle.aa_profile_rules.proofs.rules.read_common.Goals as goal

pub returns-else-begins_kept-clause-refused : goal.returns-else-begins_kept-clause-refused
returns-else-begins_kept-clause-refused c = search rules fits 8000
