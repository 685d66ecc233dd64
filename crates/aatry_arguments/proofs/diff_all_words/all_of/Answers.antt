use Rattle.std.proofs.Common.{map, string_bytes}
use Rattle.aa_start.proofs.FaultLemmas.{memory_given}
use Rattle.aatry_arguments.specs.DiffAllWords.{asked_all}
use Rattle.aatry_arguments.specs.Given.{meant_path_comparison}
use Rattle.aatry_arguments.proofs.diff_all_words.all_of.Goals as goal

pub returns-in-Err : goal.returns-in-Err
returns-in-Err c = memory_given meant_path_comparison (asked_all (map string_bytes c.args.words.now))
