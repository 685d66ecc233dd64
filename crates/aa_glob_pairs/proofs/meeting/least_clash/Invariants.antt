use Rattle.aa_glob_pairs.specs.Pairs.{classed}
use Rattle.aa_glob_pairs.specs.code.Progress.{IsMeeting}
use Rattle.aa_glob_pairs.proofs.meeting.least_clash.Given as goal

abbrev pub invariant-loop-row : goal.invariant-loop-row
invariant-loop-row l = IsMeeting (classed l.tables l.classes l.belows) l.row 0 l.meeting
