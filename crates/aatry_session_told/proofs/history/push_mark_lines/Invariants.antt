use Rattle.std.proofs.Common.{◌≡◌, ◌++◌, length}
use Rattle.aa_history.specs.SeenMarks.{seen_marks}
use Rattle.aatry_session_told.specs.History.{mark_lines}
use Rattle.aatry_session_told.proofs.history.push_mark_lines.Given as goal

-- the text so far, with the lines of the marks that are left, is all
abbrev pub invariant-loop-rest : goal.invariant-loop-rest
invariant-loop-rest l =
    l.out.items ++ mark_lines l.loaded l.number (seen_marks l.rest) ≡ l.initial.out.items ++ mark_lines l.loaded l.number (seen_marks l.marks)

abbrev pub decreases-loop-rest : goal.decreases-loop-rest
decreases-loop-rest l = length l.rest
