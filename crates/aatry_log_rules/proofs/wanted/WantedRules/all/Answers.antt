use Rattle.std.proofs.Common.{◌≡◌, ◌∙◌, ap, map, rules}
use Rattle.indexmap.specs.IndexMap.{values}
use Rattle.aatry_log_rules.specs.SeenWanted.{seen_wanted}
use Rattle.aatry_log_rules.proofs.WantedLemmas.{wanted-values}
use Rattle.aatry_log_rules.proofs.wanted.WantedRules.all.Goals as goal

pub returns : goal.returns
returns c =
    let items : c.loop-wanted.all.items ≡ values c.self.inside.by_text = search rules in
    ap (map seen_wanted) items ∙ wanted-values c.self.inside.by_text.entries ∙ c.self.view_is
