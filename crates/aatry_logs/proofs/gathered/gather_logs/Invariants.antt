use Rattle.std.proofs.Common.{◌≡◌, ◌++◌, ℕ, false, List, length, map, string_bytes}
use Rattle.aatry_logs.specs.Gathered.{AreGathered}
use Rattle.aatry_logs.specs.code.Reading.{left_by}
use Rattle.aatry_log_lines.specs.Selections.{seen_selection}
use Rattle.aatry_logs.specs.LogRequests.{LogRequests, nothing, seen_logs}
use Rattle.aatry_logs.proofs.gathered.gather_logs.Given as goal

-- what the logs that are left add makes what all add, standard input was read or is as it was, and the logs so far are a beginning of all
abbrev pub invariant-loop-rest : goal.invariant-loop-rest
invariant-loop-rest g l = record {
  taken : (after : LogRequests) → AreGathered (seen_selection l.fn.selection) (g.D.FileSystem.known l.disk) (left_by l.was_read (g.S.Source.left l.input))
      (map string_bytes l.rest) (seen_logs l.logs) after
      → AreGathered (seen_selection l.fn.selection) (g.D.FileSystem.known l.disk) (g.S.Source.left l.initial.input) (map string_bytes l.paths) nothing after;
  unread : l.was_read ≡ false → l.input ≡ l.initial.input;
  begins : (before : List (List ℕ)) × (map string_bytes l.paths ≡ before ++ map string_bytes l.rest);
}

abbrev pub decreases-loop-rest : goal.decreases-loop-rest
decreases-loop-rest g l = length l.rest
