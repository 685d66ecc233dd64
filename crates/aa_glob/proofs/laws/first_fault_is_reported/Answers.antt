use Rattle.aa_glob.proofs.ReadingLaws.{reading-first_fault}
use Rattle.aa_glob.proofs.laws.first_fault_is_reported.Goals as goal

pub returns : goal.returns
returns c = reading-first_fault
