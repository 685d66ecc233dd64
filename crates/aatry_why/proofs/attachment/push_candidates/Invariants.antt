use Rattle.std.proofs.Common.{◌≡◌, ◌+◌, ◌++◌, length}
use Rattle.aatry_why.specs.AttachmentLines.{lines_from}
use Rattle.aa_explain.specs.Candidates.{seen_candidates}
use Rattle.aatry_why.proofs.attachment.push_candidates.Given as goal

-- the text so far, with the lines of the rest, is all
abbrev pub invariant-loop-rest : goal.invariant-loop-rest
invariant-loop-rest l = record {
  same : l.out.items ++ lines_from l.teller.form l.path l.ranks l.place (seen_candidates l.rest)
      ≡ l.initial.out.items ++ lines_from l.teller.form l.path l.ranks 0 (seen_candidates l.candidates);
  count : l.place + length l.rest ≡ length l.candidates;
}

abbrev pub decreases-loop-rest : goal.decreases-loop-rest
decreases-loop-rest l = length l.rest
