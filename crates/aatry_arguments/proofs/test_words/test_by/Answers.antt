use Rattle.std.proofs.Common.{map, string_bytes}
use Rattle.aatry_arguments.specs.TestWords.{test_of}
use Rattle.aatry_arguments.specs.CheckWords.{asked_check}
use Rattle.aatry_arguments.specs.Given.{meant_check, meant_test}
use Rattle.aatry_arguments.proofs.AskedLemmas.{fault_given}
use Rattle.aatry_arguments.proofs.test_words.test_by.Goals as goal

pub returns-in-Err : goal.returns-in-Err
returns-in-Err c =
    fault_given meant_check meant_test (test_of c.args.accept) (asked_check (map string_bytes c.args.words.now)) c.in-Err.fault c.passed_on.result c.in-Err.ensures c.passed_on.ensures
