use Rattle.std.proofs.Common.{◌≡◌, ◌<◌, length}
use Rattle.aa_text_expansion.specs.Choices.{choices}
use Rattle.aa_text_expansion.specs.Expanding.{held}
use Rattle.aa_text_expansion.specs.Joining.{cut_off, joined}
use Rattle.aa_text_expansion.specs.Lists.{AreKept, list_at}
use Rattle.aa_text_expansion.specs.Parts.{parts}
use Rattle.aa_text_expansion.proofs.expanding.expand_text.Given as goal

-- the texts so far, with the choices of the rest behind them, are those of the text
abbrev pub invariant-loop-part : goal.invariant-loop-part
invariant-loop-part g l = record {
  kept : AreKept l.fn.lists l.lists;
  within : l.so_far < length l.lists;
  same : cut_off (joined (list_at l.lists l.so_far) (choices (held l.fn.lists (g.V.Values.numbers l.values)) (parts l.rest)))
      ≡ cut_off (choices (held l.fn.lists (g.V.Values.numbers l.values)) (parts l.text));
}

abbrev pub decreases-loop-part : goal.decreases-loop-part
decreases-loop-part g l = length l.rest
