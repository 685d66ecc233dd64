use Rattle.std.proofs.Common.{◌≡◌, length}
use Rattle.aa_set_commands.specs.Lines.{lines}
use Rattle.aatry_requests.specs.Gathering.{gathered, seen_requests, with_lines}
use Rattle.aatry_requests.proofs.requests.gather.Given as goal

-- the lines so far and the others give what all do
abbrev pub invariant-loop-line : goal.invariant-loop-line
invariant-loop-line l = with_lines l.fn.source (seen_requests l.requests) (lines l.rest) ≡ gathered l.fn.source l.fn.text

abbrev pub decreases-loop-line : goal.decreases-loop-line
decreases-loop-line l = length l.rest
