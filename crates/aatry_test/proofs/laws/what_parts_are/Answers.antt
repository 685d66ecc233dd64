use Rattle.aatry_test.proofs.PartLemmas.{all_is_told, all_is_wanted, each_has_its_reply}
use Rattle.aatry_test.proofs.laws.what_parts_are.Goals as goal

pub returns-clause-each : goal.returns-clause-each
returns-clause-each c = each_has_its_reply

pub returns-clause-told : goal.returns-clause-told
returns-clause-told c = all_is_told

pub returns-clause-wanted : goal.returns-clause-wanted
returns-clause-wanted c = all_is_wanted
