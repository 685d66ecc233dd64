use Rattle.std.proofs.Common.{◌≡◌, ◌++◌, drop, map}
use Rattle.std.specs.Str.Lines.{strip_carriage_return}
use Rattle.aatry_transcripts.specs.Transcripts.{texts}
use Rattle.aatry_transcripts.proofs.lines.without_returns.Given as goal

-- the lines so far, with those that are left, are all
abbrev pub invariant-loop-line : goal.invariant-loop-line
invariant-loop-line l =
    texts l.found.items ++ map strip_carriage_return (texts (drop l.line-index l.lines)) ≡ map strip_carriage_return (texts l.lines)
