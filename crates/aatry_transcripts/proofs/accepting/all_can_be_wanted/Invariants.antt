use Rattle.std.proofs.Common.{◌≡◌, drop}
use Rattle.std.specs.List.{list_all}
use Rattle.aatry_transcripts.specs.Accepting.{can_be_wanted}
use Rattle.aatry_transcripts.specs.Transcripts.{texts}
use Rattle.aatry_transcripts.proofs.accepting.all_can_be_wanted.Given as goal

-- the lines so far can be wanted
abbrev pub invariant-loop-line : goal.invariant-loop-line
invariant-loop-line l = list_all can_be_wanted (texts (drop l.line-index l.told)) ≡ list_all can_be_wanted (texts l.told)
