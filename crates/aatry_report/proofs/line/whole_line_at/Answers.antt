use Rattle.aatry_report.proofs.LineLemmas.{whole_line_at-cut}
use Rattle.aatry_report.proofs.line.whole_line_at.Goals as goal

pub returns : goal.returns
returns c =
    whole_line_at-cut c.args.text.now c.before-front.result.now c.behind.result.now c.first_line.result.now c.last_line_start-start.result c.args.at
    c.before-front.ensures.value c.behind.ensures c.first_line.ensures c.last_line_start-start.ensures.value c.last_line_start-start.ensures.within
