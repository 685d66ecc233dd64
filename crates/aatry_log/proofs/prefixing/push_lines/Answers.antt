use Rattle.std.proofs.Common.{◌++◌, sym, ap, append_assoc, flat_map, ◌∙◌}
use Rattle.aa_set_commands.specs.Lines.{lines}
use Rattle.aatry_log.specs.Prefixed.{prefixed}
use Rattle.aatry_log_lines.proofs.LineLemmas.{lines-ended}
use Rattle.aatry_log.proofs.prefixing.push_lines.Goals as goal

pub loop-line-preserved : goal.loop-line-preserved
loop-line-preserved c =
    let line = c.in-Some.line.now in
    let behind = c.in-Some.behind.now in
    let out = c.loop-line.out.items in
    let more = flat_map (prefixed c.args.prefix.now) (lines behind) in
    ap (λ front. front ++ more) c.in_ok-push_line.ensures ∙ append_assoc out (prefixed c.args.prefix.now line) more
    ∙ ap (λ all. out ++ flat_map (prefixed c.args.prefix.now) all) (sym (ap lines c.in-Some.ensures.whole ∙ lines-ended line behind c.in-Some.ensures.line))
    ∙ c.loop-line.invariant
