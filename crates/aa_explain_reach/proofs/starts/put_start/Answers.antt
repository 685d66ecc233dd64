use Rattle.std.specs.Option.{option_map}
use Rattle.std.proofs.lemmas.Result.{on_ok_weaker}
use Rattle.aa_decide.specs.SeenExec.{seen_asker}
use Rattle.aa_explain_reach.proofs.PutLemmas.{adds-start}
use Rattle.aa_explain_reach.proofs.starts.put_start.Goals as goal

pub returns : goal.returns
returns c =
    on_ok_weaker c.put_place.result
    (λ puts. adds-start c.args.slots.now (option_map seen_asker c.args.ready.now) c.args.owned c.args.path.now c.in_ok-found.found _ _ c.in_ok-found.ensures puts)
    c.put_place.ensures
