use Rattle.std.proofs.Common.{◌≡◌, ◌∙◌, ap, arith, length, subst, sym}
use Rattle.aa_glob_paths.proofs.PathLemmas.{some_weaker}
use Rattle.aa_glob_paths.specs.AllPaths.{TellAllPaths}
use Rattle.aa_explain_paths.proofs.TellingLemmas.{length-telling}
use Rattle.aa_explain_paths.specs.Telling.{classes_among, classes_of, telling_among}
use Rattle.aa_explain_paths.proofs.patterns.standing_paths.Goals as goal

pub outcomes-requires : goal.outcomes-requires
outcomes-requires c =
    let others = c.requires.0 in
    let wanted = c.args.wanted.now in
    let unasked = c.args.unasked.now in
    let same : length (telling_among others wanted unasked) ≡ length (classes_among others wanted unasked) = length-telling others wanted unasked in
    let counted : classes_of c.args.count (length wanted) (length unasked) ≡ classes_among others wanted unasked =
    ap (λ n. classes_of n (length wanted) (length unasked)) (sym c.requires.2) in
    let long : length c.deref.result.now ≡ length (classes_among others wanted unasked) = ap length (c.deref.ensures.value ∙ c.in_ok-classes.ensures ∙ counted) in
    (telling_among others wanted unasked, c.in_ok-automaton.ensures others c.requires.1, omega (arith, same, long))

pub returns-clause-told : goal.returns-clause-told
returns-clause-told c = λ others built count.
    let wanted = c.args.wanted.now in
    let unasked = c.args.unasked.now in
    let all = telling_among others wanted unasked in
    let is : c.deref.result.now ≡ classes_among others wanted unasked =
    c.deref.ensures.value ∙ c.in_ok-classes.ensures ∙ ap (λ n. classes_of n (length wanted) (length unasked)) (sym count) in
    some_weaker _ _ (λ outcomes told. subst (λ l. TellAllPaths all l outcomes.items) is (told all (c.in_ok-automaton.ensures others built))) c.in_ok-found.found c.in_ok-found.ensures.told

pub returns-clause-full : goal.returns-clause-full
returns-clause-full c = λ others built count none.
    c.in_ok-found.ensures.full (telling_among others c.args.wanted.now c.args.unasked.now) (c.in_ok-automaton.ensures others built) none
