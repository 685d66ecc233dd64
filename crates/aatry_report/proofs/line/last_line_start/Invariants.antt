use Rattle.std.proofs.Common.{◌≡◌, ◌+◌, ◌≤◌, not, length, take}
use Rattle.std.specs.List.{suffix_len}
use Rattle.aatry_report.specs.Lines.{is_line_feed}
use Rattle.aatry_report.proofs.line.last_line_start.Given as goal

-- no line feed stands from `start` on
abbrev pub invariant-loop-start : goal.invariant-loop-start
invariant-loop-start l = record {
  within : l.start ≤ length l.text;
  passed : l.start + suffix_len (λ b. not (is_line_feed b)) l.text ≡ length l.text + suffix_len (λ b. not (is_line_feed b)) (take l.start l.text);
}

abbrev pub decreases-loop-start : goal.decreases-loop-start
decreases-loop-start l = l.start
