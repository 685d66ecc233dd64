use Rattle.aatry_log_lines.proofs.LoggedLemmas.{access-back, exec-back}
use Rattle.aatry_log_lines.proofs.laws.what_is_logged_reads_back.Goals as goal

pub returns-clause-access : goal.returns-clause-access
returns-clause-access c asker request verdict tag logged who can = rw logged (access-back asker request tag verdict.mask.0 who can)

pub returns-clause-exec : goal.returns-clause-exec
returns-clause-exec c asker path verdict tag logged who fit is = rw logged (exec-back asker path tag verdict.mask.0 who fit is)
