use Rattle.std.proofs.Common.{◌∙◌}
use Rattle.aa_bytes.proofs.NameMapLemmas.{found-by-order}
use Rattle.aa_bytes.proofs.name_map.NameMap.get.Goals as goal

pub returns : goal.returns
returns c = c.copied.ensures ∙ c.get.ensures.value ∙ found-by-order c.args.self.now.by_name.entries c.args.name.now
