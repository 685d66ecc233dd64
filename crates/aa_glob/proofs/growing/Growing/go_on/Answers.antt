use Rattle.aa_glob.proofs.GrowthLemmas.{follows-entered}
use Rattle.aa_glob_syntax.specs.Cursor.{meaning}
use Rattle.std.proofs.lemmas.Result.{IfOk-weaker}
use Rattle.aa_glob.proofs.growing.Growing.go_on.Goals as goal

pub returns : goal.returns
returns c =
    IfOk-weaker c.enter.result _ _ (
    λ done goes patterns trail follows.
    follows-entered patterns trail c.state_behind.new.self c.args.walk.now c.enter.new.self (meaning c.args.element) c.in_ok-state.state
    goes (c.in_ok-state.ensures patterns trail follows)
    ) c.enter.ensures
