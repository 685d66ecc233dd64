use Rattle.std.proofs.Common.{◌≡◌, ◌++◌, ◌+◌, ◌≤◌, count_by, drop}
use Rattle.std.specs.Prelude.{flat_map}
use Rattle.aatry_test.specs.Differences.{differs, part_text, parts}
use Rattle.aatry_transcripts.specs.Transcripts.{texts}
use Rattle.aatry_test.proofs.comparing.push_parts.Given as goal

-- what is told so far, with what is told of the lines that are left, is all, and so is the count
abbrev pub invariant-loop-at : goal.invariant-loop-at
invariant-loop-at l = record {
  told : l.out.items ++ flat_map (part_text l.path) (parts (l.at + 1) (texts (drop l.at l.lines)) (texts l.left))
      ≡ l.initial.out.items ++ flat_map (part_text l.path) (parts 1 (texts l.lines) (texts l.told));
  counted : l.differing + count_by differs (parts (l.at + 1) (texts (drop l.at l.lines)) (texts l.left))
      ≡ count_by differs (parts 1 (texts l.lines) (texts l.told));
  few : l.differing ≤ l.at;
}
