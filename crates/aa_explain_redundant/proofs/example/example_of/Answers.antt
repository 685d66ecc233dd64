use Rattle.std.proofs.Common.{◌≡◌, ◌∙◌, ◌∷◌, [], List, ap, map, subst, sym}
use Rattle.aa_explain_paths.specs.Meant.{unasked_patterns}
use Rattle.aa_explain_paths.specs.Telling.{classes_among, telling_among}
use Rattle.aa_glob_paths.specs.AllPaths.{TellAllPaths}
use Rattle.aa_glob_paths.specs.Laws.{paths_of}
use Rattle.aa_explain_redundant.specs.Left.{Numbered, numbered}
use Rattle.aa_explain_redundant.specs.Examples.{IsExampleOf, own_patterns, seen_example}
use Rattle.aa_explain_redundant.specs.Seen.{seen_numbered, seen_written}
use Rattle.aa_explain_redundant.specs.Trying.{tried_patterns}
use Rattle.aa_explain_redundant.specs.code.Examples.{example_by}
use Rattle.aa_explain_redundant.proofs.ExampleLemmas.{example-right}
use Rattle.aa_explain_redundant.proofs.example.example_of.Goals as goal

pub returns : goal.returns
returns c =
    let rules = seen_written c.args.rules in
    let gone = c.args.gone.now in
    let number = c.args.number in
    let outcomes = c.in-Some.outcomes.items in
    let each : map seen_numbered c.deref.result.now ≡ numbered rules = ap (map seen_numbered) c.deref.ensures.value ∙ c.in_ok-each.ensures in
    let also : map seen_numbered c.deref-in-Some.result.now ≡ numbered rules = ap (map seen_numbered) c.deref-in-Some.ensures.value ∙ c.in_ok-each.ensures in
    let wanted : c.deref-2.result.now ≡ own_patterns (numbered rules) number =
    c.deref-2.ensures.value ∙ c.in_ok-wanted.ensures ∙ ap (tried_patterns (number ∷ [])) each in
    let told : TellAllPaths (telling_among [] c.deref-2.result.now unasked_patterns) (classes_among [] c.deref-2.result.now unasked_patterns) outcomes =
    rw c.in-Some.is at c.in_ok-own_outcomes.ensures.told in
    let tells = subst (λ w. TellAllPaths (telling_among [] w unasked_patterns) (classes_among [] w unasked_patterns) outcomes) wanted told in
    let same : seen_example c.in_ok-example-in-Some.example ≡ example_by (numbered rules) gone number (paths_of outcomes) =
    c.in_ok-example-in-Some.ensures
    ∙ ap (λ (r : List Numbered). example_by r gone number (paths_of c.deref-in-Some-2.result.now)) also
    ∙ ap (λ os. example_by (numbered rules) gone number (paths_of os)) c.deref-in-Some-2.ensures.value in
    subst (IsExampleOf rules gone number) (sym same) (example-right c.outcomes_stand_for_all.ensures.all rules gone number outcomes tells)
