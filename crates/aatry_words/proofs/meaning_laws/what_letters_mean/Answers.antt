use Rattle.aatry_words.proofs.LetterLemmas.{letters-mean}
use Rattle.aatry_words.proofs.meaning_laws.what_letters_mean.Goals as goal

pub returns : goal.returns
returns c = letters-mean
