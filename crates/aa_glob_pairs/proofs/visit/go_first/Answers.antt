use Rattle.std.proofs.Common.{◌≡◌, ◌≤◌, length, subst, arith, List, ℕ}
use Rattle.std.proofs.lemmas.List.{take_all}
use Rattle.std.specs.Prelude.{Contains}
use Rattle.aa_glob_pairs.proofs.GoLemmas.{go_first_more}
use Rattle.aa_glob_pairs.specs.Waiting.{Gains, Ordered}
use Rattle.aa_glob_pairs.proofs.visit.go_first.Goals as goal

pub loop-state-preserved : goal.loop-state-preserved
loop-state-preserved c =
    go_first_more c.args.waiting.now c.loop-state.waiting c.insert_pair.new.self c.args.free.now c.loop-state.state-index _ c.args.column c.loop-state-test.true c.loop-state.invariant c.in_ok-insert_pair.ensures

pub returns : goal.returns
returns c =
    let end : length c.args.free.now ≤ c.loop-state.state-index = omega arith in
    subst (λ (l : List ℕ). Gains c.args.waiting.now c.loop-state.waiting (Ordered (λ x y. Contains l x × (y ≡ c.args.column)))) (take_all c.loop-state.state-index c.args.free.now end) c.loop-state.invariant
