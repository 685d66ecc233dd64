use Rattle.aa_profile_data.proofs.NameStackLemmas.{full_names-alone, names-alone}
use Rattle.aa_profile_data.proofs.word_laws.no_name_is_a_stack.Goals as goal

pub returns-clause-full_names : goal.returns-clause-full_names
returns-clause-full_names c = full_names-alone

pub returns-clause-names : goal.returns-clause-names
returns-clause-names c = names-alone
