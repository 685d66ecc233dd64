use Rattle.std.proofs.Common.{◌∙◌, ap, rules}
use Rattle.std.proofs.lemmas.Fn.{filter_same}
use Rattle.aa_history.specs.SeenMarks.{seen_marks}
use Rattle.aa_history.proofs.MarkLemmas.{seen_marks-filter}
use Rattle.aa_history.proofs.marks.keep_among.Goals as goal

pub returns : goal.returns
returns c = ap seen_marks (filter_same _ _ _ (λ mark b f k. search rules) _ _ c.retain.ensures.filtered) ∙ seen_marks-filter c.args.number c.args.marks.now.items
