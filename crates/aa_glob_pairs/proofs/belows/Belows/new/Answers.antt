use Rattle.std.proofs.Common.{◌∙◌, ap}
use Rattle.std.specs.Prelude.{map}
use Rattle.aa_glob_pairs.proofs.BelowLemmas.{none-below}
use Rattle.aa_glob_pairs.specs.code.Numbered.{below_of}
use Rattle.aa_glob_pairs.proofs.belows.Belows.new.Goals as goal

pub returns : goal.returns
returns c = ap (map below_of) (c.in_ok-numbers.ensures.items_if_clones_equal (λ y same. same)) ∙ none-below c.args.states
