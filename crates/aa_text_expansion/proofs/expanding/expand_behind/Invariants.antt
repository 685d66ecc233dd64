use Rattle.std.proofs.Common.{◌≡◌, ◌<◌, ◌++◌, length, take}
use Rattle.aa_text_expansion.specs.Choices.{choices_within}
use Rattle.aa_text_expansion.specs.Expanding.{held}
use Rattle.aa_text_expansion.specs.Joining.{cut_off}
use Rattle.aa_text_expansion.specs.Lists.{AreKept, list_at}
use Rattle.aa_text_expansion.proofs.expanding.expand_behind.Given as goal

-- the words so far are expanded
abbrev pub invariant-loop-word : goal.invariant-loop-word
invariant-loop-word g l = record {
  kept : AreKept l.fn.lists l.lists;
  within : l.so_far < length l.lists;
  same : cut_off (list_at l.lists l.so_far) ≡ cut_off (list_at l.fn.lists l.first ++ choices_within (held l.fn.lists (g.V.Values.numbers l.values)) (take l.word-index l.words));
}
