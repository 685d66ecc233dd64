use Rattle.std.proofs.Common.{ap, map, sym, subst, ◌∙◌}
use Rattle.aatry_words.specs.Near.{IsNearest, SoFar, nearest}
use Rattle.aatry_words.specs.code.SoFar.{seen_so_far}
use Rattle.aatry_words.proofs.NearLemmas.{at_no_more, nearest_is}
use Rattle.aatry_words.proofs.near.nearest.Goals as goal

pub returns-clause-value : goal.returns-clause-value
unfolding nearest
returns-clause-value c =
    ap (λ (s : SoFar). s.nearest)
    (sym (at_no_more (λ name. name.now) c.args.word.now (seen_so_far c.loop-rest.so_far) c.loop-rest.rest.now c.in_default.len_below) ∙ c.loop-rest.invariant)

pub returns-clause-nearest : goal.returns-clause-nearest
returns-clause-nearest c =
    let names = map (λ name. name.now) c.args.names.now in
    subst (IsNearest names c.args.word.now) (sym (returns-clause-value c)) (nearest_is c.args.word.now names)
