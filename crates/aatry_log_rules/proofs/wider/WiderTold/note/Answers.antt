use Rattle.std.proofs.Common.{◌∙◌, ap}
use Rattle.aatry_log_rules.specs.SeenWider.{seen_texts}
use Rattle.aatry_log_rules.specs.Wider.{with_told}
use Rattle.aatry_log_rules.proofs.WiderLemmas.{noted-seen}
use Rattle.aatry_log_rules.proofs.wider.WiderTold.note.Goals as goal

pub returns : goal.returns
returns c =
    ap seen_texts c.in_ok-insert.ensures.keys
    ∙ noted-seen c.self.inside.texts.keys c.args.text
    ∙ ap (with_told c.args.text.items) c.self.view_is
