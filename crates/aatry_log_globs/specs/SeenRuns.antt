-- A hash or number of the code, as the definitions see it.
use Rattle.aatry_log_globs.specs.Runs.{Run}
use Rattle.aatry_log_globs.specs.declared.runs.Run.{Run as CodeRun}

abbrev pub seen_run : CodeRun → Run
seen_run run = record { pattern = run.pattern.now; size = run.size }
