use Rattle.std.proofs.Common.{[]}
use Rattle.aa_glob.proofs.BuiltLemmas.{built-none}
use Rattle.aa_glob.proofs.builder.AutomatonBuilder.new.Goals as goal

pub invariant_of-result : goal.invariant_of-result
invariant_of-result c = (
  [],
  built-none c.how_graphs_are_drawn.ensures.start_is_drawn c.how_beginnings_are_gathered.ensures.first_text_is_begun
      (record { drawing = c.in_ok-new.field-0; tree = c.in_ok-new-2.field-0; numbers = c.new-3.result }) c.in_ok-new.ensures c.in_ok-new-2.ensures.places c.in_ok-new-2.ensures.ways,
)
