use Rattle.std.proofs.Common.{map, string_bytes}
use Rattle.aa_start.proofs.FaultLemmas.{memory_given}
use Rattle.aatry_arguments.specs.Given.{meant_reach}
use Rattle.aatry_arguments.specs.ReachWords.{asked_reach}
use Rattle.aatry_arguments.proofs.reach_words.reach_of.Goals as goal

pub returns-in-Err : goal.returns-in-Err
returns-in-Err c = memory_given meant_reach (asked_reach (map string_bytes c.args.words.now))
