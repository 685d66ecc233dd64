use Rattle.std.proofs.Common.{◌-◌, ◌^◌}
use Rattle.aa_glob_pairs.specs.Pairs.{classed}
use Rattle.aa_glob_pairs.specs.code.Progress.{IsMeeting}
use Rattle.aa_glob_pairs.specs.Places.{StandsAt}
use Rattle.aa_glob_pairs.specs.Waiting.{row_at}
use Rattle.aa_glob_pairs.proofs.meeting.meet_all.Given as goal

abbrev pub invariant-loop-next : goal.invariant-loop-next
invariant-loop-next l = IsMeeting (classed l.tables l.classes l.belows) l.row l.place.index l.meeting × StandsAt l.place (row_at l.meeting.waiting l.row)

abbrev pub decreases-loop-next : goal.decreases-loop-next
decreases-loop-next l = 2 ^ 64 - l.place.index
