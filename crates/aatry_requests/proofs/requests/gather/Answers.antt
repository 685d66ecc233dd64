use Rattle.std.proofs.Common.{sym, ap, ◌∙◌}
use Rattle.aa_set_commands.specs.Lines.{lines}
use Rattle.aatry_requests.specs.Gathering.{seen_requests, with_lines}
use Rattle.aatry_log_lines.proofs.LineLemmas.{lines-ended}
use Rattle.aatry_requests.proofs.requests.gather.Goals as goal

pub loop-line-preserved : goal.loop-line-preserved
loop-line-preserved c =
    let source = c.args.source in
    let line = c.in-Some.line.now in
    let behind = c.in-Some.behind.now in
    ap (λ so_far. with_lines source so_far (lines behind)) c.in_ok-take.ensures
    ∙ ap (with_lines source (seen_requests c.loop-line.requests))
    (sym (ap lines c.in-Some.ensures.whole ∙ lines-ended line behind c.in-Some.ensures.line))
    ∙ c.loop-line.invariant
