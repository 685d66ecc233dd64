use Rattle.std.proofs.Common.{suc, length}
use Rattle.aa_text_variables.proofs.CycleLaws.{chain-of_cycle, chain-of_word, cycle-of_long_chain, endless-of_long_chain, word-of_chain}
use Rattle.aa_text_variables.proofs.laws.what_a_cycle_is.Goals as goal

pub returns-clause-chain_of_all_leads_to_a_cyclic_variable : goal.returns-clause-chain_of_all_leads_to_a_cyclic_variable
returns-clause-chain_of_all_leads_to_a_cyclic_variable c = λ variables text. (cycle-of_long_chain variables text, λ cycle. chain-of_cycle variables text cycle (suc (length variables)))

pub returns-clause-cycle_has_chains_of_any_length : goal.returns-clause-cycle_has_chains_of_any_length
returns-clause-cycle_has_chains_of_any_length c = λ variables text h. endless-of_long_chain variables text h

pub returns-clause-variable_is_cyclic_by_a_word : goal.returns-clause-variable_is_cyclic_by_a_word
returns-clause-variable_is_cyclic_by_a_word c = λ variables variable e. (word-of_chain variables variable e, chain-of_word variables variable)
