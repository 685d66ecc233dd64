use Rattle.std.proofs.Common.{◌≡◌, drop}
use Rattle.std.specs.List.{list_any}
use Rattle.aatry_transcripts.specs.Transcripts.{is_command, texts}
use Rattle.aatry_transcripts.proofs.replies.has_command.Given as goal

-- the lines so far hold none
abbrev pub invariant-loop-line : goal.invariant-loop-line
invariant-loop-line l = list_any is_command (texts (drop l.line-index l.lines)) ≡ list_any is_command (texts l.lines)
