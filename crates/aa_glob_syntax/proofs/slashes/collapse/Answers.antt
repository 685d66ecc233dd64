use Rattle.std.proofs.Common.{◌∙◌, ◌==◌, ◌&&◌, rules}
use Rattle.std.proofs.lemmas.Fn.{dedup_same}
use Rattle.aa_bytes.specs.Bytes.{slash}
use Rattle.aa_glob_syntax.proofs.SlashLemmas.{dedup_collapses}
use Rattle.aa_glob_syntax.proofs.slashes.collapse.Goals as goal

pub returns : goal.returns
returns c =
    dedup_same _ (λ byte before. byte == slash && before == slash) _ (λ byte before b f byte_left before_left k. search rules) _ _ c.dedup_by.ensures.filtered
    ∙ dedup_collapses c.args.text.now.items
