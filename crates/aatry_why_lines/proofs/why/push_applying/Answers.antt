use Rattle.std.proofs.Common.{◌∙◌}
use Rattle.aatry_why_lines.proofs.why.push_applying.Goals as goal

pub returns : goal.returns
returns c = let told = c.deref.ensures.value ∙ c.in_ok-told.ensures in rw told at c.push_groups.ensures
