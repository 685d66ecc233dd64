use Rattle.aa_glob_pattern.proofs.BeginningLemmas.{apart-distinct, one_count, same_states}
use Rattle.aa_glob_pattern.proofs.BoundLemmas.{few_states}
use Rattle.aa_glob_pattern.proofs.laws.how_many_states_there_are.Goals as goal

pub returns-clause-states_have_one_count : goal.returns-clause-states_have_one_count
returns-clause-states_have_one_count c = one_count

pub returns-clause-states_are_few : goal.returns-clause-states_are_few
returns-clause-states_are_few c = few_states

pub returns-clause-same_texts_have_same_states : goal.returns-clause-same_texts_have_same_states
returns-clause-same_texts_have_same_states c = same_states

pub returns-clause-apart_is_distinct : goal.returns-clause-apart_is_distinct
returns-clause-apart_is_distinct c = apart-distinct
