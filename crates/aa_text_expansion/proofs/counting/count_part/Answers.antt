use Rattle.aa_text_expansion.proofs.CountingLemmas.{choices-of_bytes}
use Rattle.aa_text_expansion.proofs.counting.count_part.Goals as goal

pub returns-in-Text : goal.returns-in-Text
returns-in-Text g c = rw c.in-Text.is (choices-of_bytes (g.C.Counts.counts c.args.counts.now) c.in-Text.field-0.now)
