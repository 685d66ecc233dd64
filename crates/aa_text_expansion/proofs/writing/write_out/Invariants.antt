use Rattle.std.proofs.Common.{◌≡◌}
use Rattle.aa_text_expansion.specs.Joining.{cut_off}
use Rattle.aa_text_expansion.specs.code.Made.{listed, listed_at}
use Rattle.aa_text_expansion.specs.code.Written.{IsStacked, all_steps, all_texts}
use Rattle.aa_text_expansion.proofs.writing.write_out.Given as goal

-- what is done and what will come are all texts
abbrev pub invariant-loop-begun : goal.invariant-loop-begun
invariant-loop-begun l = record {
  stacked : IsStacked l.writing;
  texts : all_texts (listed l.nodes) l.writing ≡ cut_off (listed_at (listed l.nodes) l.number).texts;
}

abbrev pub decreases-loop-begun : goal.decreases-loop-begun
decreases-loop-begun l = all_steps (listed l.nodes) l.writing
