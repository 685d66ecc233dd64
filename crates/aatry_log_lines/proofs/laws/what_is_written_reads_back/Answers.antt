use Rattle.aatry_log_lines.proofs.WrittenLemmas.{written-back}
use Rattle.aatry_log_lines.proofs.laws.what_is_written_reads_back.Goals as goal

pub returns : goal.returns
returns c = written-back
