use Rattle.std.proofs.Common.{◌+◌, ◌∙◌, List, ℕ, arith, subst, sym}
use Rattle.std.specs.Prelude.{take}
use Rattle.aa_glob.specs.Built.{IsBuilt}
use Rattle.aa_profile_conflicts.proofs.StateLemmas.{exec_patterns-more, many-already, not-many}
use Rattle.aa_profile_conflicts.specs.States.{exec_patterns}
use Rattle.aa_profile_conflicts.proofs.states.has_many_states.Goals as goal

pub loop-rule-preserved : goal.loop-rule-preserved
loop-rule-preserved c =
    let rules = c.args.rules.now in
    let at = c.loop-rule.rule-index in
    let built = subst (λ (l : List (List ℕ)). IsBuilt c.in_ok-builder-2.builder l) (exec_patterns-more rules at c.rule-item.result c.loop-rule-test.true c.rule-item.is)
    (c.in_ok-builder-2.ensures (exec_patterns (take at rules)) c.loop-rule.invariant.0) in
    let counted = c.states.ensures.counted (exec_patterns (take (at + 1) rules)) built in
    (built, (let few = c.if-states-gt-MOST_EXEC_STATES.false in omega (arith, counted, few)))

pub returns-then-states-gt-MOST_EXEC_STATES : goal.returns-then-states-gt-MOST_EXEC_STATES
returns-then-states-gt-MOST_EXEC_STATES c =
    let rules = c.args.rules.now in
    let at = c.loop-rule.rule-index in
    let built = subst (λ (l : List (List ℕ)). IsBuilt c.in_ok-builder-2.builder l) (exec_patterns-more rules at c.rule-item.result c.loop-rule-test.true c.rule-item.is)
    (c.in_ok-builder-2.ensures (exec_patterns (take at rules)) c.loop-rule.invariant.0) in
    let counted = c.states.ensures.counted (exec_patterns (take (at + 1) rules)) built in
    sym (many-already rules (at + 1) (let more = c.if-states-gt-MOST_EXEC_STATES.true in omega (arith, counted, more)))

pub returns-then-not-may_have_many_states : goal.returns-then-not-may_have_many_states
returns-then-not-may_have_many_states c = sym (not-many c.args.rules.now (sym c.may_have_many_states.ensures ∙ c.if-not-may_have_many_states.true))
