use Rattle.aa_glob.proofs.ReadingLaws.{reading-plain}
use Rattle.aa_glob.proofs.laws.plain_text_reads_as_itself.Goals as goal

pub returns : goal.returns
returns c = reading-plain
