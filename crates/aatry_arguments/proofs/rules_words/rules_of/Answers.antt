use Rattle.std.proofs.Common.{map, string_bytes}
use Rattle.aa_start.proofs.FaultLemmas.{memory_given}
use Rattle.aatry_arguments.specs.Given.{meant_rules}
use Rattle.aatry_arguments.specs.RulesWords.{asked_rules}
use Rattle.aatry_arguments.proofs.rules_words.rules_of.Goals as goal

pub returns-in-Err : goal.returns-in-Err
returns-in-Err c = memory_given meant_rules (asked_rules (map string_bytes c.args.words.now))
