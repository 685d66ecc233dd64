use Rattle.std.proofs.Common.{map, string_bytes}
use Rattle.aa_start.proofs.FaultLemmas.{memory_given}
use Rattle.aatry_arguments.specs.Given.{meant_test}
use Rattle.aatry_arguments.specs.TestWords.{asked_test}
use Rattle.aatry_arguments.proofs.test_words.test_of.Goals as goal

pub returns-in-Err : goal.returns-in-Err
returns-in-Err c = memory_given meant_test (asked_test (map string_bytes c.args.words.now))
