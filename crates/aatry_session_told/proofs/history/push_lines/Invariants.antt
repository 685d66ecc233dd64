use Rattle.std.proofs.Common.{◌≡◌, ◌+◌, ◌++◌, length}
use Rattle.aa_history.specs.SeenMarks.{seen_marks}
use Rattle.aatry_session_told.specs.History.{history_lines}
use Rattle.aatry_session_told.proofs.history.push_lines.Given as goal

-- the text so far, with the lines of what is left, is all
abbrev pub invariant-loop-rest : goal.invariant-loop-rest
invariant-loop-rest l = record {
  counted : l.before + length l.rest ≡ length l.texts;
  told : l.out.items ++ history_lines l.loaded l.before l.done (seen_marks l.marks) l.rest
      ≡ l.initial.out.items ++ history_lines l.loaded 0 l.done (seen_marks l.marks) l.texts;
}

abbrev pub decreases-loop-rest : goal.decreases-loop-rest
decreases-loop-rest l = length l.rest
