use Rattle.aatry_never_exec.proofs.WordLemmas.{exec-is-no-access}
use Rattle.aatry_never_exec.proofs.laws.which_words_ask_exec.Goals as goal

pub returns : goal.returns
returns c = exec-is-no-access
