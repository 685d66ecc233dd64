use Rattle.std.proofs.Common.{◌≡◌, ◌≤◌, ◌+◌, ℕ, false, List, length, option_map}
use Rattle.std.specs.Prelude.{◌*◌}
use Rattle.aatry_logs.specs.OpenedInputs.{most_reads}
use Rattle.aatry_log_lines.specs.Selections.{seen_selection}
use Rattle.aatry_logs.specs.Compressed.{begin_compressed}
use Rattle.aatry_logs.specs.Inputs.{AreGiven}
use Rattle.aatry_logs.specs.LogRequests.{seen_logs, with_lines}
use Rattle.aatry_logs.proofs.log_requests.LogRequests.take_lines.Given as goal

-- the lines so far were taken, each with no more reads than a line may take
abbrev pub invariant-loop-count : goal.invariant-loop-count
invariant-loop-count g l = record {
  taken : (given : List (List ℕ)) × AreGiven (g.S.Source.left l.initial.reader) given (g.S.Source.left l.reader) l.lines.input
      × (begin_compressed given ≡ false) × (length given ≡ l.count)
      × (seen_logs l.self ≡ with_lines (seen_selection l.fn.selection) (option_map (λ path. path.now) l.fn.file) (seen_logs l.initial.self) given);
  reads : g.S.Source.reads l.reader ≤ g.S.Source.reads l.initial.reader + l.count * most_reads;
}
