use Rattle.std.proofs.Common.{◌<◌, [], arith, length}
use Rattle.aa_profile_data.specs.Domains.{names}
use Rattle.aatry_questions.proofs.TableLemmas.{take_next}
use Rattle.aatry_questions.proofs.misspelled.domain_names.Goals as goal

pub loop-number-preserved : goal.loop-number-preserved
loop-number-preserved c =
    let within : c.loop-number.number < length names = omega arith in
    let next = take_next names c.loop-number.number [] within in
    let pushed = c.in_ok-push_name.ensures in
    cc (pushed, next, c.loop-number.invariant, c.domain_name.ensures)
