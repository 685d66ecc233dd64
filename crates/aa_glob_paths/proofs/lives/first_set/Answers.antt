use Rattle.std.proofs.Common.{[], length}
use Rattle.aa_glob_nfa.specs.OfTables.{graph_of}
use Rattle.aa_glob_paths.proofs.LiveLemmas.{set-in_order, whole-permutation}
use Rattle.aa_glob_paths.proofs.lives.first_set.Goals as goal

pub returns-clause-whole : goal.returns-clause-whole
returns-clause-whole c =
    whole-permutation (graph_of c.args.tables.now) [] c.in_ok-states.states.items c.put_in_order.new.states.items c.put_in_order.ensures.same c.in_ok-states.ensures.whole

pub returns-clause-set : goal.returns-clause-set
returns-clause-set c =
    set-in_order (length c.args.tables.now.states) c.in_ok-states.states.items c.put_in_order.new.states.items c.put_in_order.ensures.same c.put_in_order.ensures.order c.in_ok-states.ensures.live
