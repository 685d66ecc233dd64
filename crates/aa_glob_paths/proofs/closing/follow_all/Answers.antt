use Rattle.std.proofs.Common.{List, ℕ, sym, subst}
use Rattle.aa_glob_nfa.specs.OfTables.{graph_of}
use Rattle.aa_glob_paths.specs.Alike.{StandForAllFrom}
use Rattle.aa_glob_paths.proofs.closing.follow_all.Goals as goal

pub follow_each-requires-clause-bytes : goal.follow_each-requires-clause-bytes
follow_each-requires-clause-bytes c =
    let g = graph_of c.args.tables.now in
    let own = subst (λ (set : List ℕ). StandForAllFrom g set c.bytes_for_set.new.own.items) c.set.ensures c.in_ok-bytes_for_set.ensures in
    subst (StandForAllFrom g _) (sym c.deref.ensures.value) own
