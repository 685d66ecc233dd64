use Rattle.std.proofs.Common.{◌≡◌, ◌≤◌, ◌*◌, min, length}
use Rattle.aa_text_expansion.specs.Choices.{choice_count}
use Rattle.aa_text_expansion.specs.Parts.{parts}
use Rattle.aa_text_expansion.specs.Counting.{most_counted}
use Rattle.aa_text_expansion.proofs.counting.count_text.Given as goal

-- the choices so far, times those of the rest, are those of the text
abbrev pub invariant-loop-part : goal.invariant-loop-part
invariant-loop-part g l = record {
  same : min (l.so_far * choice_count (g.C.Counts.counts l.counts) (parts l.rest)) most_counted ≡ min (choice_count (g.C.Counts.counts l.counts) (parts l.text)) most_counted;
  bounded : l.so_far ≤ most_counted;
}

abbrev pub decreases-loop-part : goal.decreases-loop-part
decreases-loop-part g l = length l.rest
