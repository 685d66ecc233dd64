use Rattle.std.proofs.Common.{◌==◌, ◌∙◌, ap, position, sym}
use Rattle.aatry_why_lines.proofs.FindingLemmas.{found_walk}
use Rattle.aatry_why_lines.proofs.finding.walk_on.Goals as goal

pub to-walk-requires-in-Some : goal.to-walk-requires-in-Some
to-walk-requires-in-Some c =
    let file = c.args.place.file in
    let found = sym (c.walk_place.ensures ∙ ap (position (λ own. own.file == file)) c.deref.ensures.value) ∙ c.in-Some.is in
    rw (c.bytes_at-text.ensures, c.index.ensures)
    record { known = found_walk c.args.files.now c.args.walks.now.items file c.in-Some.index c.index.result.now c.requires found }
