use Rattle.std.proofs.lemmas.Result.{on_ok_weaker}
use Rattle.aa_glob_pairs.proofs.GoLemmas.{go_shared}
use Rattle.aa_glob_pairs.proofs.visit.go_if_shared.Goals as goal

pub returns-then-share : goal.returns-then-share
returns-then-share c =
    on_ok_weaker c.insert_pair.result (λ gains. go_shared c.args.waiting.now c.insert_pair.new.self c.args.step.now c.args.other.now (c.share.ensures.0 c.if-share.true) gains) c.insert_pair.ensures
