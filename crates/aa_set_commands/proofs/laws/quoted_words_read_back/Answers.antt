use Rattle.aa_set_commands.proofs.WordLemmas.{words_of-quoted_line}
use Rattle.aa_set_commands.proofs.laws.quoted_words_read_back.Goals as goal

pub returns : goal.returns
returns c = words_of-quoted_line
