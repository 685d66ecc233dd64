use Rattle.std.proofs.Common.{map, string_bytes}
use Rattle.aa_start.proofs.FaultLemmas.{memory_given}
use Rattle.aatry_arguments.specs.Given.{meant_paths}
use Rattle.aatry_arguments.specs.PathsWords.{asked_paths}
use Rattle.aatry_arguments.proofs.paths_words.paths_of.Goals as goal

pub returns-in-Err : goal.returns-in-Err
returns-in-Err c = memory_given meant_paths (asked_paths c.args.always (map string_bytes c.args.words.now))
