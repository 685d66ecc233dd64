use Rattle.std.proofs.Common.{◌∙◌, ◌++◌, ap}
use Rattle.std.proofs.lemmas.Result.{on_ok_weaker}
use Rattle.aatry_test.specs.Running.{seen_asserted}
use Rattle.aatry_transcripts.specs.Transcripts.{texts}
use Rattle.aatry_test.proofs.CompareLemmas.{counts-are, counts_with, failure-is}
use Rattle.aatry_test.proofs.comparing.push_failure.Goals as goal

pub returns : goal.returns
returns c =
    let lines = texts c.args.lines.now in
    let told = texts c.args.told.now in
    let asserted = seen_asserted c.args.asserted.now in
    on_ok_weaker c.push_last.result
    (λ put. failure-is c.args.accepted c.args.path.now lines told (texts c.deref.result.now) asserted (counts_with c.command_count.result c.in_ok-differing.differing c.assertion_count.result asserted.failing)
    c.args.out.now.items c.push_front.new.out.items c.push_parts.new.out.items c.extend_from_slice.new.self.items c.push_last.new.out.items
    (ap texts c.deref.ensures.value ∙ c.in_ok-front.ensures)
    (counts-are lines told c.command_count.result c.in_ok-differing.differing c.assertion_count.result asserted.failing
    c.command_count.ensures c.in_ok-differing.ensures.counted c.assertion_count.ensures)
    c.in_ok-push_front.ensures c.in_ok-differing.ensures.told
    (c.in_ok-extend_from_slice.ensures.items ∙ ap (λ t. c.push_parts.new.out.items ++ t) c.deref-2.ensures.value) put)
    c.push_last.ensures
