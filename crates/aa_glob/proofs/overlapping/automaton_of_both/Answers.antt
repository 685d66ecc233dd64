use Rattle.std.proofs.Common.{[], ◌∷◌}
use Rattle.aa_glob.proofs.overlapping.automaton_of_both.Goals as goal

pub returns : goal.returns
returns c =
    let one = c.args.one.now in
    let other = c.args.other.now in
    c.finish.ensures (one ∷ other ∷ []) (c.in_ok-builder-3.ensures (one ∷ []) (c.in_ok-builder-2.ensures [] c.in_ok-builder.ensures))
