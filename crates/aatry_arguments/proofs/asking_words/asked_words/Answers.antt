use Rattle.std.proofs.Common.{map, string_bytes}
use Rattle.aatry_arguments.specs.AskingWords.{asking_of}
use Rattle.aatry_arguments.specs.CheckWords.{asked_check}
use Rattle.aatry_arguments.specs.Given.{meant_asking, meant_check}
use Rattle.aatry_arguments.proofs.AskedLemmas.{fault_given}
use Rattle.aatry_arguments.proofs.asking_words.asked_words.Goals as goal

pub returns-in-Err : goal.returns-in-Err
returns-in-Err c =
    fault_given meant_check meant_asking asking_of (asked_check (map string_bytes c.args.words.now)) c.in-Err.fault c.passed_on.result c.in-Err.ensures c.passed_on.ensures
