use Rattle.aa_glob.proofs.ReadingLaws.{reading-quoted}
use Rattle.aa_glob.proofs.laws.quoted_text_reads_as_itself.Goals as goal

pub returns : goal.returns
returns c = reading-quoted
