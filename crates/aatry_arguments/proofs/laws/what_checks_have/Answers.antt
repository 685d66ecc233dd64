use Rattle.std.proofs.Common.{refl}
use Rattle.aatry_arguments.proofs.LawLemmas.{base_word, both_words, last_word, plain_words}
use Rattle.aatry_arguments.proofs.laws.what_checks_have.Goals as goal

pub returns-clause-alone : goal.returns-clause-alone
returns-clause-alone c = refl

pub returns-clause-plain : goal.returns-clause-plain
returns-clause-plain c words check h = plain_words words check h

pub returns-clause-dashes : goal.returns-clause-dashes
returns-clause-dashes c words check = refl

pub returns-clause-base : goal.returns-clause-base
returns-clause-base c words folder check h = base_word words folder check h

pub returns-clause-last : goal.returns-clause-last
returns-clause-last c words first last check f l = last_word words first last check f l

pub returns-clause-both : goal.returns-clause-both
returns-clause-both c = both_words
