use Rattle.std.proofs.Common.{◌≡◌, ◌++◌, drop}
use Rattle.aatry_report.specs.Shown.{shown}
use Rattle.aatry_report.proofs.shown.push_shown.Given as goal

-- the text so far, with what is left of the other as it is shown, is all
abbrev pub invariant-loop-byte : goal.invariant-loop-byte
invariant-loop-byte l = l.out.items ++ shown (drop l.byte-index l.text) ≡ l.initial.out.items ++ shown l.text
