use Rattle.std.proofs.Common.{◌∙◌}
use Rattle.std.proofs.lemmas.Result.{on_ok_weaker}
use Rattle.aa_text_variables.proofs.ReachedLemmas.{indexes_within-both}
use Rattle.aa_text_variables.proofs.variables.Variables.note_words.Goals as goal

pub returns : goal.returns
returns c =
    on_ok_weaker c.note_all-2.result
    (λ gathered. gathered ∙ indexes_within-both c.args.self.now c.args.reached.now.keys c.note_all.new.reached.keys c.words.result.0.now c.words.result.1.now _ c.words.ensures c.in_ok-note_all.ensures)
    c.note_all-2.ensures
