use Rattle.std.proofs.Common.{◌∙◌}
use Rattle.aatry_why_lines.proofs.why.push_nearest.Goals as goal

pub returns : goal.returns
returns c = let near = c.deref.ensures.value ∙ c.in_ok-indexes.ensures in rw near at c.push_group.ensures
