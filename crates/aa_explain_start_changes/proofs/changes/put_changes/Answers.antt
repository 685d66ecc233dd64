use Rattle.std.proofs.Common.{◌≡◌, ◌∙◌, ap, sym, true}
use Rattle.std.proofs.lemmas.Result.{on_ok_weaker}
use Rattle.aa_glob_syntax.specs.Matching.{matches}
use Rattle.aa_glob_syntax.specs.Reading.{items_of}
use Rattle.aa_explain_start_changes.specs.Starters.{seen_starters}
use Rattle.aa_explain_start_changes.specs.code.Telling.{is_absolute}
use Rattle.aa_explain_start_changes.proofs.PutLemmas.{adds-both}
use Rattle.aa_explain_start_changes.proofs.changes.put_changes.Goals as goal

pub returns : goal.returns
returns c =
    let starters = seen_starters c.args.ready.now in
    let absolute : is_absolute c.args.path.now ≡ true =
    ap (λ p. matches (items_of p) c.args.path.now) (sym c.requires.every) ∙ sym c.if-not-matches.ensures.test in
    on_ok_weaker c.put_change-2.result
    (λ second. adds-both starters c.args.path.now c.args.changes.now.items _ _ absolute c.in_ok-put_change.ensures second)
    c.put_change-2.ensures
