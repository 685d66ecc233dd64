use Rattle.aa_text_expansion.specs.code.Made.{listed}
use Rattle.aa_text_expansion.proofs.writing.write_out.Goals as goal

pub loop-begun-init : goal.loop-begun-init
loop-begun-init c =
    let started = c.in_ok-writing.ensures (listed c.args.nodes.now) in
    record { stacked = started.stacked; texts = started.texts }
