use Rattle.std.proofs.Common.{◌++◌, ap, append_assoc, ◌∙◌}
use Rattle.aatry_hints.specs.Colors.{colored_line}
use Rattle.aatry_hints.proofs.ColorLemmas.{begun-next}
use Rattle.aatry_hints.proofs.lines.push_colored.Goals as goal

pub loop-line-preserved : goal.loop-line-preserved
loop-line-preserved c =
    let so_far = c.loop-line.invariant in
    let line = c.in-Some.line.now in (
      so_far.0 ++ colored_line line,
      c.in_ok-push_line.ensures ∙ ap (λ front. front ++ colored_line line) so_far.1 ∙ append_assoc c.args.out.now.items so_far.0 (colored_line line),
      begun-next c.args.text.now so_far.0 c.loop-line.rest.now line c.in-Some.behind.now so_far.2 c.in-Some.ensures.whole c.in-Some.ensures.line,
    )
