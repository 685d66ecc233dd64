use Rattle.std.proofs.Common.{◌≡◌, ◌+◌, ◌++◌, take, vec_capacity, vec_len}
use Rattle.aatry_report.specs.CaretLine.{blanks_below}
use Rattle.aatry_report.specs.Characters.{character_count}
use Rattle.aatry_report.proofs.caret_line.push_blanks_below.Given as goal

-- what stands below the bytes so far is there
abbrev pub invariant-loop-byte : goal.invariant-loop-byte
invariant-loop-byte l = record {
  items : l.out.items ≡ l.initial.out.items ++ blanks_below (take l.byte-index l.text);
  len : vec_len l.out ≡ vec_len l.initial.out + character_count (take l.byte-index l.text);
  capacity : vec_capacity l.out ≡ vec_capacity l.initial.out;
}
