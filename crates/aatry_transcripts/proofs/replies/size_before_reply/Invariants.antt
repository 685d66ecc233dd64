use Rattle.std.proofs.Common.{◌≡◌, ◌≤◌, ◌+◌, not, drop, length}
use Rattle.std.specs.List.{prefix_len}
use Rattle.aatry_transcripts.specs.Replies.{begins_reply}
use Rattle.aatry_transcripts.specs.Transcripts.{texts}
use Rattle.aatry_transcripts.proofs.replies.size_before_reply.Given as goal

-- the lines so far begin no reply
abbrev pub invariant-loop-line : goal.invariant-loop-line
invariant-loop-line l = record {
  value : prefix_len (λ line. not (begins_reply line)) (texts l.lines) ≡ l.size + prefix_len (λ line. not (begins_reply line)) (texts (drop l.line-index l.lines));
  counted : l.size ≡ l.line-index;
  within : l.line-index ≤ length l.lines;
}
