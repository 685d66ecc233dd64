use Rattle.aatry_words.proofs.NameLemmas.{means-no_other, names-mean}
use Rattle.aatry_words.proofs.meaning_laws.what_names_mean.Goals as goal

pub returns-clause-written : goal.returns-clause-written
returns-clause-written c = names-mean

pub returns-clause-others : goal.returns-clause-others
returns-clause-others c = means-no_other
