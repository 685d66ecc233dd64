use Rattle.std.proofs.Common.{◌≡◌, ◌++◌, drop}
use Rattle.aatry_report.specs.Shown.{shown_lines}
use Rattle.aatry_report.proofs.shown.push_shown_lines.Given as goal

-- the text so far, with what is left of the lines as they are shown, is all
abbrev pub invariant-loop-byte : goal.invariant-loop-byte
invariant-loop-byte l = l.out.items ++ shown_lines (drop l.byte-index l.lines) ≡ l.initial.out.items ++ shown_lines l.lines
