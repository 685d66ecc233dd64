use Rattle.std.proofs.Common.{length}
use Rattle.aa_text_variables.specs.Expansions.{has_chain}
use Rattle.aa_text_variables.proofs.LeadLaws.{leads-defined, no_chains, words_behind-none}
use Rattle.aa_text_variables.proofs.laws.what_a_text_leads_to.Goals as goal

pub returns-clause-undefined_name_is_found_at_once : goal.returns-clause-undefined_name_is_found_at_once
returns-clause-undefined_name_is_found_at_once c = λ variables text h k. leads-defined variables (length variables) text h k

pub returns-clause-no_cyclic_variable_no_cycle : goal.returns-clause-no_cyclic_variable_no_cycle
returns-clause-no_cyclic_variable_no_cycle c = λ variables text h. words_behind-none (has_chain variables (length variables)) variables text (no_chains variables variables h)
