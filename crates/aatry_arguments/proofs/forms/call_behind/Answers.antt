use Rattle.std.proofs.Common.{map, string_bytes}
use Rattle.aa_start.proofs.FaultLemmas.{memory_given}
use Rattle.aatry_arguments.specs.Forms.{asked_call}
use Rattle.aatry_arguments.specs.Given.{meant_call}
use Rattle.aatry_arguments.proofs.forms.call_behind.Goals as goal

pub returns-in-Err : goal.returns-in-Err
returns-in-Err c = memory_given meant_call (asked_call (map string_bytes c.args.words.now))
