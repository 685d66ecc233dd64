use Rattle.std.proofs.Common.{subst}
use Rattle.std.specs.Prelude.{IfSome}
use Rattle.aa_glob_nfa.specs.OfTables.{graph_of}
use Rattle.aa_glob_paths.specs.Reachable.{AreReachable}
use Rattle.aa_glob_paths.proofs.PathLemmas.{texts-told}
use Rattle.aa_glob_paths.proofs.of_sets.outcomes_in.Goals as goal

pub returns-clause-told : goal.returns-clause-told
returns-clause-told c =
    let g = graph_of c.args.tables.now in
    let sets = c.in-Some.sets in
    let some = subst (λ found. IfSome found (AreReachable g c.deref.result.now c.deref-2.result.now)) c.in-Some.is c.in_ok-reachable.ensures.reachable in
    let wanted = c.in_ok-wanted.wanted.items in
    let settled = c.in_ok-settled.settled.items in
    let told : AreReachable g wanted settled sets = subst (λ marks. AreReachable g wanted marks sets) c.deref-2.ensures.value (subst (λ marks. AreReachable g marks c.deref-2.result.now sets) c.deref.ensures.value some) in
    texts-told c.what_sets_tell.ensures.settled g c.args.classes.now wanted settled sets c.in_ok-outcomes_of-in-Some.field-0.items c.requires.later
    c.in_ok-wanted.ensures.ends c.in_ok-settled.ensures.settled told c.in_ok-outcomes_of-in-Some.ensures
