use Rattle.std.proofs.Common.{◌∙◌, ap}
use Rattle.aatry_log_rules.specs.Wider.{has_text}
use Rattle.aatry_log_rules.proofs.WiderLemmas.{has-seen}
use Rattle.aatry_log_rules.proofs.wider.WiderTold.has.Goals as goal

pub returns : goal.returns
returns c = c.contains.ensures ∙ has-seen c.args.text.now c.self.inside.texts.keys ∙ ap (has_text c.args.text.now) c.self.view_is
