use Rattle.std.proofs.Common.{map, string_bytes}
use Rattle.aatry_arguments.specs.LogWords.{logs_of}
use Rattle.aatry_arguments.specs.CheckWords.{asked_check}
use Rattle.aatry_arguments.specs.Given.{meant_check, meant_lines, meant_logs, meant_telling}
use Rattle.aatry_arguments.proofs.AskedLemmas.{fault_given}
use Rattle.aatry_arguments.proofs.log_words.logs_by.Goals as goal

pub returns-in-Err : goal.returns-in-Err
returns-in-Err c =
    fault_given meant_check meant_logs (logs_of (meant_telling c.args.telling) (meant_lines c.args.lines)) (asked_check (map string_bytes c.args.words.now)) c.in-Err.fault c.passed_on.result c.in-Err.ensures
    c.passed_on.ensures
