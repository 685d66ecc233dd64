use Rattle.aatry_questions.proofs.MeantLemmas.{words-mean}
use Rattle.aatry_questions.proofs.laws.what_words_mean.Goals as goal

pub returns : goal.returns
returns c = words-mean c.what_names_mean.ensures.written c.what_letters_mean.ensures
