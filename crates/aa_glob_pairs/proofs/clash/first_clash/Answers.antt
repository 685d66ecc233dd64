use Rattle.std.proofs.lemmas.Result.{IfOk-weaker}
use Rattle.aa_glob_pairs.proofs.ClashLemmas.{meets_clashes}
use Rattle.aa_glob_pairs.proofs.LeastLemmas.{least_as}
use Rattle.aa_glob_pairs.specs.Clashes.{IsLeast}
use Rattle.aa_glob_pairs.specs.Graphs.{ClashesAt}
use Rattle.aa_glob_pairs.specs.Pairs.{classed, MeetsAt}
use Rattle.aa_glob_pairs.proofs.clash.first_clash.Goals as goal

pub returns : goal.returns
returns c =
    let t = c.args.tables.now in
    let g = classed t c.args.classes.now c.in_ok-belows.belows in
    IfOk-weaker c.least_clash.result (λ found. IsLeast found (MeetsAt g)) (λ found. IsLeast found (ClashesAt g.graph g.classes))
    (λ found least. least_as found (MeetsAt g) (ClashesAt g.graph g.classes) (meets_clashes g c.requires.later c.in_ok-belows.ensures) least) c.least_clash.ensures
