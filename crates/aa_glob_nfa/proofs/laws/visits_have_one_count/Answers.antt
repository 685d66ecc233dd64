use Rattle.aa_glob_nfa.specs.Graphs.{Reaches}
use Rattle.aa_glob_nfa.proofs.CountLemmas.{one_count}
use Rattle.aa_glob_nfa.proofs.laws.visits_have_one_count.Goals as goal

pub returns : goal.returns
returns c = λ g. one_count (Reaches g)
