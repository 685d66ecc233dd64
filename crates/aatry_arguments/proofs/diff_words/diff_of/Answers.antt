use Rattle.std.proofs.Common.{map, string_bytes}
use Rattle.aa_start.proofs.FaultLemmas.{memory_given}
use Rattle.aatry_arguments.specs.DiffWords.{asked_diff}
use Rattle.aatry_arguments.specs.Given.{meant_comparison}
use Rattle.aatry_arguments.proofs.diff_words.diff_of.Goals as goal

pub returns-in-Err : goal.returns-in-Err
returns-in-Err c = memory_given meant_comparison (asked_diff (map string_bytes c.args.words.now))
