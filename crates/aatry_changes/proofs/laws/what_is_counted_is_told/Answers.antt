use Rattle.aatry_changes.proofs.CountLemmas.{new-told, old-told, some-stat, some-told}
use Rattle.aatry_changes.proofs.laws.what_is_counted_is_told.Goals as goal

pub returns-clause-of_the_old : goal.returns-clause-of_the_old
returns-clause-of_the_old c = old-told

pub returns-clause-of_the_new : goal.returns-clause-of_the_new
returns-clause-of_the_new c = new-told

pub returns-clause-of_both : goal.returns-clause-of_both
returns-clause-of_both c = some-told

pub returns-clause-of_stat : goal.returns-clause-of_stat
returns-clause-of_stat c = some-stat
