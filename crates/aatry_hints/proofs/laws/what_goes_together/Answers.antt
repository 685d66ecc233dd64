use Rattle.aatry_hints.proofs.LawLemmas.{all_go, rules_go}
use Rattle.aatry_hints.proofs.laws.what_goes_together.Goals as goal

pub returns-clause-all : goal.returns-clause-all
returns-clause-all c = all_go

pub returns-clause-rules : goal.returns-clause-rules
returns-clause-rules c = rules_go
