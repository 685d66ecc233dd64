use Rattle.std.proofs.Common.{[], ◌∷◌, arith, subst, sym}
use Rattle.std.specs.Prelude.{Decides}
use Rattle.aa_glob.proofs.ClashLemmas.{found-decides}
use Rattle.aa_glob_syntax.specs.Overlap.{Overlap}
use Rattle.aa_glob.proofs.overlapping.overlap.Goals as goal

pub first_clash-requires : goal.first_clash-requires
first_clash-requires c = (c.args.one.now ∷ c.args.other.now ∷ [], c.in_ok-automaton.ensures, omega arith)

pub returns : goal.returns
returns c =
    let one = c.args.one.now in
    let other = c.args.other.now in
    subst (λ told. Decides told (Overlap one other)) (sym c.is_some.ensures) (found-decides one other c.in_ok-found.found (c.in_ok-found.ensures (one ∷ other ∷ []) c.in_ok-automaton.ensures))
