use Rattle.std.proofs.Common.{◌∙◌, ap, set}
use Rattle.std.proofs.lemmas.List.{map-set}
use Rattle.aa_glob_pairs.specs.code.Numbered.{below_of}
use Rattle.aa_glob_pairs.proofs.belows.Belows.put.Goals as goal

pub returns : goal.returns
returns c =
    map-set below_of c.self.inside.numbers.items c.args.state c.number_of.result
    ∙ ap (λ l. set l c.args.state (below_of c.number_of.result)) c.self.view_is
    ∙ ap (λ n. set c.args.self.now c.args.state (below_of n)) c.number_of.ensures
