use Rattle.aatry_policy.proofs.PlaceLemmas.{file-own, folder-read, found-at, named-at}
use Rattle.aatry_policy.proofs.laws.where_loaded_profiles_are_read.Goals as goal

pub returns-clause-of_a_file : goal.returns-clause-of_a_file
returns-clause-of_a_file c = file-own c.where_rules_are_made.ensures

pub returns-clause-of_each_name : goal.returns-clause-of_each_name
returns-clause-of_each_name c = found-at

pub returns-clause-each : goal.returns-clause-each
returns-clause-each c = folder-read c.what_changes_keep.ensures c.where_rules_are_made.ensures

pub returns-clause-by_name : goal.returns-clause-by_name
returns-clause-by_name c = named-at c.what_changes_keep.ensures c.where_rules_are_made.ensures
