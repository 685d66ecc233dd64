use Rattle.aa_profile_data.proofs.PartLemmas.{read-as_said, written-in_one_way}
use Rattle.aa_profile_data.proofs.word_laws.what_accesses_say.Goals as goal

pub returns-clause-read_as_its_parts_say : goal.returns-clause-read_as_its_parts_say
returns-clause-read_as_its_parts_say c = read-as_said

pub returns-clause-written_in_one_way : goal.returns-clause-written_in_one_way
returns-clause-written_in_one_way c = written-in_one_way
