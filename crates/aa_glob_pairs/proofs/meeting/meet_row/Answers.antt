use Rattle.std.proofs.Common.{◌≤◌, [], arith, length, refl, subst}
use Rattle.aa_glob_pairs.proofs.ProgressLemmas.{meeting_next_row}
use Rattle.aa_glob_pairs.specs.Pairs.{classed}
use Rattle.aa_glob_pairs.specs.Places.{IsNext}
use Rattle.aa_glob_pairs.specs.Waiting.{row_at}
use Rattle.aa_glob_pairs.proofs.meeting.meet_row.Goals as goal

pub returns-in-None : goal.returns-in-None
returns-in-None c =
    let t = c.args.tables.now in
    let g = classed t c.args.classes.now c.args.belows.now in
    let meeting = c.args.meeting.now in
    let row = row_at meeting.waiting c.args.row in
    let ended : length row ≤ c.start.result.index = subst (λ found. IsNext found c.start.result row) c.in-None.is c.next_place.ensures in
    meeting_next_row g c.args.row 0 meeting c.requires.ready.later c.requires.met (omega (arith, ended, (c.start.ensures []).within))
    (record { waiting = c.pass.new.self; seen = meeting.seen; found = meeting.found }) c.pass.ensures refl refl
