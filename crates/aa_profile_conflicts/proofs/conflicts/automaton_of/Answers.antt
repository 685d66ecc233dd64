use Rattle.std.proofs.Common.{◌++◌, ◌∷◌, ◌∙◌, [], List, ℕ, ap, subst, sym}
use Rattle.std.specs.Prelude.{get_or, take}
use Rattle.std.proofs.lemmas.List.{take_more}
use Rattle.aa_glob.specs.Built.{IsBuilt}
use Rattle.aa_profile_conflicts.proofs.PlacedLemmas.{patterns-append}
use Rattle.aa_profile_conflicts.specs.Leads.{patterns_by}
use Rattle.aa_profile_conflicts.proofs.conflicts.automaton_of.Goals as goal

pub loop-rule-preserved : goal.loop-rule-preserved
loop-rule-preserved c =
    let rank = c.args.rank in
    let rules = c.args.rules.now in
    let at = c.loop-rule.rule-index in
    let rule = c.rule-item.result in
    subst (λ (l : List (List ℕ)). IsBuilt c.in_ok-builder-2.builder l)
    (ap (λ r. patterns_by rank (take at rules) ++ patterns_by rank (r ∷ [])) c.rule-item.is
    ∙ sym (patterns-append rank (take at rules) (get_or rules at rule ∷ []))
    ∙ ap (patterns_by rank) (sym (take_more rules at rule c.loop-rule-test.true)))
    (c.in_ok-builder-2.ensures (patterns_by rank (take at rules)) c.loop-rule.invariant)
