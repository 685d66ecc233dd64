use Rattle.std.proofs.Common.{◌≡◌, ◌∙◌, ap, sym, true}
use Rattle.std.specs.Option.{option_map}
use Rattle.std.proofs.lemmas.Result.{on_ok_weaker}
use Rattle.aa_decide.specs.SeenExec.{seen_asker}
use Rattle.aa_glob_syntax.specs.Matching.{matches}
use Rattle.aa_glob_syntax.specs.Reading.{items_of}
use Rattle.aa_explain_reach.specs.code.Telling.{is_absolute}
use Rattle.aa_explain_reach.proofs.PutLemmas.{adds-both}
use Rattle.aa_explain_reach.proofs.starts.put_starts.Goals as goal

pub returns : goal.returns
returns c =
    let asker = option_map seen_asker c.args.ready.now in
    let absolute : is_absolute c.args.path.now ≡ true =
    ap (λ p. matches (items_of p) c.args.path.now) (sym c.requires.every) ∙ sym c.if-not-matches.ensures.test in
    on_ok_weaker c.put_start-2.result
    (λ second. adds-both c.args.slots.now asker c.args.path.now c.args.starts.now.items _ _ absolute c.in_ok-put_start.ensures second)
    c.put_start-2.ensures
