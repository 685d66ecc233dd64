use Rattle.std.proofs.Common.{length, refl, subst, sym}
use Rattle.aa_glob_nfa.specs.OfTables.{graph_of}
use Rattle.aa_glob_nfa.specs.Runs.{IsWhole}
use Rattle.aa_glob_paths.specs.Found.{AreFound, FoundSet, IsStateSet}
use Rattle.aa_glob_paths.specs.code.Closing.{ComeOfUpTo, HasPlaced}
use Rattle.aa_glob_paths.proofs.FoundLemmas.{found-first, placed-first, up_to-first}
use Rattle.aa_glob_paths.proofs.closing.begin.Goals as goal

pub returns-clause-found : goal.returns-clause-found
returns-clause-found c =
    let g = graph_of c.args.tables.now in
    let room = length c.args.tables.now.states in
    let same = sym c.deref.ensures.value in
    let one : FoundSet = record { set = c.deref.result.now; origin = record { from = 0; byte = 0 } } in
    let alone = placed-first c.place.new.self one (subst (λ old. HasPlaced old c.place.new.self one) c.new-sets.ensures c.in_ok-place.ensures) in
    subst (AreFound g room) (sym alone)
    (found-first g room one (subst (IsWhole g _) same c.in_ok-states.ensures.whole) (subst (IsStateSet room) same c.in_ok-states.ensures.set))

pub returns-clause-up_to : goal.returns-clause-up_to
returns-clause-up_to c =
    let one : FoundSet = record { set = c.deref.result.now; origin = record { from = 0; byte = 0 } } in
    let alone = placed-first c.place.new.self one (subst (λ old. HasPlaced old c.place.new.self one) c.new-sets.ensures c.in_ok-place.ensures) in
    subst (λ found. ComeOfUpTo found 0) (sym alone) (up_to-first one refl)
