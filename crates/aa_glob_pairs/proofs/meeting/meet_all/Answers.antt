use Rattle.std.proofs.Common.{refl, subst}
use Rattle.aa_glob_pairs.proofs.ProgressLemmas.{meeting_next_row}
use Rattle.aa_glob_pairs.specs.Pairs.{classed}
use Rattle.aa_glob_pairs.specs.Places.{IsNext}
use Rattle.aa_glob_pairs.specs.Waiting.{row_at}
use Rattle.aa_glob_pairs.proofs.meeting.meet_all.Goals as goal

pub returns : goal.returns
returns c =
    let t = c.args.tables.now in
    let g = classed t c.args.classes.now c.args.belows.now in
    let meeting = c.loop-next.meeting in
    let place = c.loop-next.place in
    meeting_next_row g c.args.row place.index meeting c.requires.ready.later c.loop-next.invariant.0
    (subst (λ found. IsNext found place (row_at meeting.waiting c.args.row)) c.in_default.is c.next_place.ensures)
    (record { waiting = c.pass.new.self; seen = meeting.seen; found = meeting.found }) c.pass.ensures refl refl
