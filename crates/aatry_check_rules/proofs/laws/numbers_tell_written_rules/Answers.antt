use Rattle.aatry_check_rules.proofs.NumberLemmas.{numbers-tell}
use Rattle.aatry_check_rules.proofs.laws.numbers_tell_written_rules.Goals as goal

pub returns : goal.returns
returns c = numbers-tell
