use Rattle.aatry_policy.proofs.PlaceLemmas.{folder-written, written-in}
use Rattle.aatry_policy.proofs.laws.where_loaded_rules_are_written.Goals as goal

pub returns-clause-of_profiles : goal.returns-clause-of_profiles
returns-clause-of_profiles c = written-in c.where_rules_are_made.ensures

pub returns-clause-of_parts : goal.returns-clause-of_parts
returns-clause-of_parts c = folder-written c.what_changes_keep.ensures c.where_rules_are_made.ensures
