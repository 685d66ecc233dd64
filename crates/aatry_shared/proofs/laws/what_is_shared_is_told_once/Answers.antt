use Rattle.aatry_shared.proofs.GroupLemmas.{named-once, shared-several, who-is-named}
use Rattle.aatry_shared.proofs.laws.what_is_shared_is_told_once.Goals as goal
use Rattle.aatry_shared.specs.Sharing.{gathered}

pub returns-clause-each : goal.returns-clause-each
returns-clause-each c = named-once

pub returns-clause-no_other : goal.returns-clause-no_other
returns-clause-no_other c = who-is-named

pub returns-clause-of_several : goal.returns-clause-of_several
returns-clause-of_several c havings = shared-several (gathered havings)
