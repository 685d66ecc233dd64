use Rattle.std.proofs.Common.{◌≡◌, sym, ◌∙◌}
use Rattle.aatry_report.specs.Lines.{line_feed_count}
use Rattle.aatry_report.proofs.PlaceLemmas.{column-on}
use Rattle.aatry_report.proofs.place.column_behind.Goals as goal

pub returns-then-line_feed_count-eq0 : goal.returns-then-line_feed_count-eq0
returns-then-line_feed_count-eq0 c =
    let none : line_feed_count c.between-part.result.now ≡ 0 = sym c.line_feed_count.ensures ∙ c.if-line_feed_count-eq0.true in
    rw (c.requires.known, c.character_count.ensures.value)
    (column-on c.args.text.now c.between-part.result.now c.args.from c.args.to c.between-part.ensures none)
