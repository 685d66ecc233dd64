use Rattle.aatry_questions.proofs.FaultLemmas.{agree, meant-agree}
use Rattle.aatry_questions.proofs.laws.how_wrong_words_are_refused.Goals as goal

pub returns-clause-asked : goal.returns-clause-asked
returns-clause-asked c = agree

pub returns-clause-meant : goal.returns-clause-meant
returns-clause-meant c = meant-agree
