use Rattle.std.proofs.Common.{map, string_bytes}
use Rattle.aatry_arguments.proofs.AskedLemmas.{fault_given, passes, then_given}
use Rattle.aatry_arguments.specs.Forms.{asked_in, at_length}
use Rattle.aatry_arguments.specs.Given.{meant_call}
use Rattle.aatry_arguments.proofs.forms.call_at_length.Goals as goal

pub returns-in-Ok : goal.returns-in-Ok
returns-in-Ok c =
    then_given meant_call meant_call at_length (asked_in c.args.language (map string_bytes c.args.words.now)) c.in-Ok.call c.at_length.result c.in-Ok.ensures
    c.at_length.ensures

pub returns-in-Err : goal.returns-in-Err
returns-in-Err c =
    fault_given meant_call meant_call at_length (asked_in c.args.language (map string_bytes c.args.words.now)) c.in-Err.fault c.in-Err.fault c.in-Err.ensures
    (passes c.in-Err.fault)
