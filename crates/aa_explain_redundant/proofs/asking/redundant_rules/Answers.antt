use Rattle.std.proofs.Common.{◌≡◌, ◌∙◌, List, ap, map, subst, sym}
use Rattle.std.specs.List.{All}
use Rattle.aa_glob_paths.specs.AllPaths.{TellAllPaths}
use Rattle.aa_glob_paths.specs.Laws.{paths_of}
use Rattle.aa_explain_redundant.proofs.LeftLemmas.{rules-numbered}
use Rattle.aa_explain_redundant.proofs.StandLemmas.{outcomes-of, told-standing}
use Rattle.aa_explain_redundant.specs.Left.{numbered, rules_among}
use Rattle.aa_explain_redundant.specs.Redundant.{AreToldOf}
use Rattle.aa_explain_redundant.specs.Seen.{seen_numbered, seen_written}
use Rattle.aa_explain_redundant.specs.Trying.{trying_patterns}
use Rattle.aa_explain_redundant.specs.code.Kinds.{IsOutcomeOf, paths_of_kinds, told_by, trying_classes}
use Rattle.aa_profile_data.specs.FileRules.{places_from}
use Rattle.aa_profile_data.specs.declared.profile.Rule.{Rule}
use Rattle.aa_explain_redundant.proofs.asking.redundant_rules.Goals as goal

pub kinds_of-requires-clause-numbers : goal.kinds_of-requires-clause-numbers
kinds_of-requires-clause-numbers c =
    let rules = seen_written c.args.rules in
    let first : map seen_numbered c.deref-in-Some.result.now ≡ numbered rules = ap (map seen_numbered) c.deref-in-Some.ensures.value ∙ c.in_ok-each.ensures in
    c.deref-in-Some-2.ensures.value ∙ c.in_ok-numbers-in-Some.ensures
    ∙ ap (places_from 0) (sym (ap rules_among first ∙ rules-numbered 0 rules.written rules.rules))

pub kinds_of-requires-clause-outcomes : goal.kinds_of-requires-clause-outcomes
kinds_of-requires-clause-outcomes c =
    let rules = seen_written c.args.rules in
    let tried = c.args.tried.now in
    let first : map seen_numbered c.deref-in-Some.result.now ≡ numbered rules = ap (map seen_numbered) c.deref-in-Some.ensures.value ∙ c.in_ok-each.ensures in
    let told : TellAllPaths (trying_patterns rules tried) (trying_classes rules tried) c.in-Some.outcomes.items = rw c.in-Some.is at c.in_ok-trying_outcomes.ensures.told in
    subst (λ (r : List Rule). All (IsOutcomeOf r) c.in-Some.outcomes.items) (sym (ap rules_among first ∙ rules-numbered 0 rules.written rules.rules))
    (outcomes-of rules tried c.in-Some.outcomes.items told)

pub returns : goal.returns
returns c =
    let rules = seen_written c.args.rules in
    let tried = c.args.tried.now in
    let second : map seen_numbered c.deref-in-Some-3.result.now ≡ numbered rules = ap (map seen_numbered) c.deref-in-Some-3.ensures.value ∙ c.in_ok-each.ensures in
    let told : TellAllPaths (trying_patterns rules tried) (trying_classes rules tried) c.in-Some.outcomes.items = rw c.in-Some.is at c.in_ok-trying_outcomes.ensures.told in
    let paths : paths_of_kinds c.deref-in-Some-4.result.now ≡ paths_of c.in-Some.outcomes.items =
    ap paths_of_kinds c.deref-in-Some-4.ensures.value ∙ c.in_ok-kinds-in-Some.ensures.paths in
    subst (AreToldOf rules tried)
    (sym (c.in_ok-told_by-in-Some.ensures ∙ (λ i. told_by rules.audit (second i) (paths i) tried)))
    (told-standing c.outcomes_stand_for_all.ensures.all rules tried c.in-Some.outcomes.items told)
