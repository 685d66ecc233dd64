use Rattle.std.proofs.Common.{◌≡◌, take}
use Rattle.aa_text_expansion.specs.Counting.{counted_words}
use Rattle.aa_text_expansion.proofs.counting.count_words.Given as goal

-- the words so far are counted
abbrev pub invariant-loop-word : goal.invariant-loop-word
invariant-loop-word g l = l.so_far ≡ counted_words (g.C.Counts.counts l.counts) (take l.word-index l.words)
