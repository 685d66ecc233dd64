use Rattle.aatry_never_exec.proofs.ChainLemmas.{chains-reached, many-means-too-many, never-means-none, no-means-some}
use Rattle.aatry_never_exec.proofs.laws.what_never_exec_says.Goals as goal

pub returns-clause-never : goal.returns-clause-never
returns-clause-never c = never-means-none c.what_is_not_reached.ensures.unconfined

pub returns-clause-some : goal.returns-clause-some
returns-clause-some c = no-means-some c.what_is_reached.ensures

pub returns-clause-chain : goal.returns-clause-chain
returns-clause-chain c = chains-reached

pub returns-clause-many : goal.returns-clause-many
returns-clause-many c = many-means-too-many
