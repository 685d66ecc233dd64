use Rattle.std.proofs.Common.{◌≡◌}
use Rattle.std.proofs.lemmas.Result.{on_ok_weaker}
use Rattle.aa_glob_nfa.specs.OfTables.{graph_of}
use Rattle.aa_glob_pairs.proofs.MoveLemmas.{gets_led_as}
use Rattle.aa_glob_pairs.proofs.moves.add_if_from.Goals as goal

pub returns-then-way-state : goal.returns-then-way-state
returns-then-way-state c =
    on_ok_weaker c.add.result
    (λ gets. gets_led_as (graph_of c.args.tables.now) c.args.moves.now c.add.new.moves (λ x. x ≡ c.args.way.now.to) (λ x. (c.args.way.now.from ≡ c.args.state) × (x ≡ c.args.way.now.to)) gets
    (λ x. (λ h. h.1, λ e. (c.if-way-state.true, e)))) c.add.ensures
