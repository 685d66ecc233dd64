use Rattle.aatry_questions.proofs.NameLemmas.{name-read, plain-word}
use Rattle.aatry_questions.proofs.laws.how_names_read_back.Goals as goal

pub returns-clause-escaped : goal.returns-clause-escaped
returns-clause-escaped c = name-read

pub returns-clause-plain : goal.returns-clause-plain
returns-clause-plain c = plain-word
