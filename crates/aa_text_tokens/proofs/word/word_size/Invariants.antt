use Rattle.std.proofs.Common.{◌≡◌, ◌≤◌, ◌+◌, length}
use Rattle.aa_text_tokens.specs.Cut.{word_left}
use Rattle.aa_text_tokens.proofs.SizeLemmas.{further}
use Rattle.aa_text_tokens.proofs.word.word_size.Given as goal

-- the bytes so far, and those of the rest, are all
abbrev pub invariant-loop-before : goal.invariant-loop-before
invariant-loop-before l = record {
  value : further l.size (word_left l.depth l.before l.rest) ≡ word_left 0 0 l.text;
  whole : l.size + length l.rest ≡ length l.text;
  shallow : l.depth ≤ l.size;
}

abbrev pub decreases-loop-before : goal.decreases-loop-before
decreases-loop-before l = length l.rest
