use Rattle.std.proofs.Common.{◌≤◌, [], ◌∷◌, ◌++◌, length, map, ap, sym, ◌∙◌, arith}
use Rattle.std.proofs.lemmas.List.{map_more, take_all}
use Rattle.aa_glob_pairs.specs.declared.below.Below.TheVariants.{Nothing}
use Rattle.aa_glob_paths.specs.Wanted.{has_wanted}
use Rattle.aa_glob_paths.proofs.wanted.marked.Goals as goal

pub loop-state-preserved : goal.loop-state-preserved
loop-state-preserved c =
    c.in_ok-push.ensures.items
    ∙ (λ i. c.loop-state.invariant i ++ (c.has_wanted.ensures ∙ ap has_wanted c.at.ensures) i ∷ [])
    ∙ sym (map_more has_wanted c.args.belows.now c.loop-state.state Nothing (omega (arith, c.requires.count, c.loop-state-test.true)))

pub returns : goal.returns
returns c =
    let end : length c.args.belows.now ≤ c.loop-state.state = omega (arith, c.requires.count) in
    c.loop-state.invariant ∙ ap (map has_wanted) (take_all c.loop-state.state c.args.belows.now end)
