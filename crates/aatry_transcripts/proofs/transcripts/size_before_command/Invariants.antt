use Rattle.std.proofs.Common.{◌≡◌, ◌≤◌, ◌+◌, not, drop, length}
use Rattle.std.specs.List.{prefix_len}
use Rattle.aatry_transcripts.specs.Transcripts.{is_command, texts}
use Rattle.aatry_transcripts.proofs.transcripts.size_before_command.Given as goal

-- the lines so far hold no command
abbrev pub invariant-loop-line : goal.invariant-loop-line
invariant-loop-line l = record {
  value : prefix_len (λ line. not (is_command line)) (texts l.lines) ≡ l.size + prefix_len (λ line. not (is_command line)) (texts (drop l.line-index l.lines));
  counted : l.size ≡ l.line-index;
  within : l.line-index ≤ length l.lines;
}
