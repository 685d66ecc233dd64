use Rattle.std.proofs.Common.{map, string_bytes}
use Rattle.aa_start.proofs.FaultLemmas.{memory_given}
use Rattle.aatry_arguments.specs.Given.{meant_logs}
use Rattle.aatry_arguments.specs.LogWords.{asked_logs}
use Rattle.aatry_arguments.proofs.log_words.logs_of.Goals as goal

pub returns-in-Err : goal.returns-in-Err
returns-in-Err c = memory_given meant_logs (asked_logs (map string_bytes c.args.words.now))
