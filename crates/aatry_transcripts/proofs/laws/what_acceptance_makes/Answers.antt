use Rattle.aatry_transcripts.proofs.PassLemmas.{asks_the_same, keeps_the_others, passes_then}
use Rattle.aatry_transcripts.proofs.laws.what_acceptance_makes.Goals as goal

pub returns-clause-passes : goal.returns-clause-passes
returns-clause-passes c = passes_then

pub returns-clause-same : goal.returns-clause-same
returns-clause-same c = asks_the_same

pub returns-clause-kept : goal.returns-clause-kept
returns-clause-kept c = keeps_the_others
