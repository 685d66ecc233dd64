use Rattle.std.proofs.Common.{◌≡◌, ◌++◌, drop}
use Rattle.aatry_test.specs.Differences.{marked_lines}
use Rattle.aatry_transcripts.specs.Transcripts.{texts}
use Rattle.aatry_test.proofs.differences.push_marked_lines.Given as goal

-- the text so far, with the lines that are left, is all
abbrev pub invariant-loop-line : goal.invariant-loop-line
invariant-loop-line l =
    l.out.items ++ marked_lines l.sign l.all (texts l.others) (texts (drop l.line-index l.lines))
    ≡ l.initial.out.items ++ marked_lines l.sign l.all (texts l.others) (texts l.lines)
