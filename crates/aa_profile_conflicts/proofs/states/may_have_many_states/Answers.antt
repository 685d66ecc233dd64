use Rattle.std.proofs.Common.{Bor, ◌+◌, ◌∙◌, ap, arith, sym}
use Rattle.std.specs.Option.{option_map}
use Rattle.std.specs.Prelude.{length}
use Rattle.aa_glob_pattern.specs.declared.pattern.Pattern.{Pattern}
use Rattle.aa_profile_conflicts.proofs.StateLemmas.{most-already, most-more, none-states, own-states}
use Rattle.aa_profile_conflicts.proofs.states.may_have_many_states.Goals as goal
use Rattle.aa_profile_conflicts.proofs.states.may_have_many_states.Goals.{in-Some+else-bytes-ge-MOST_EXEC_STATES+else-most-gt-MOST_EXEC_STATES, in_default}

pub loop-rule-preserved : goal.loop-rule-preserved
loop-rule-preserved c =
    let grown = most-more c.args.rules.now c.loop-rule.rule-index c.rule-item.result c.loop-rule-test.true c.rule-item.is in
    let before = c.loop-rule.invariant.0 in
    elim c.match-exec_pattern.branch [
      | in-Some+else-bytes-ge-MOST_EXEC_STATES+else-most-gt-MOST_EXEC_STATES w ↦
          let is = sym c.exec_pattern.ensures ∙ ap (option_map (λ (p : Bor Pattern). p.now)) w.in-Some.is in
          let own = own-states c.rule-item.result w.in-Some.pattern.now is in
          let long = ap length w.text-bytes.ensures.text in
          let now = w.most-is in
          let few = w.if-most-gt-MOST_EXEC_STATES.false in
          (omega (arith, grown, before, own, long, now), omega (arith, few, now))
      | in_default w ↦
          let is = sym c.exec_pattern.ensures ∙ ap (option_map (λ (p : Bor Pattern). p.now)) w.in_default.is in
          let own = none-states c.rule-item.result is in
          let now = w.most-is in
          let few = c.loop-rule.invariant.1 in
          (omega (arith, grown, before, own, now), omega (arith, few, now))
    ]

pub returns-then-most-gt-MOST_EXEC_STATES : goal.returns-then-most-gt-MOST_EXEC_STATES
returns-then-most-gt-MOST_EXEC_STATES c =
    let grown = most-more c.args.rules.now c.loop-rule.rule-index c.rule-item.result c.loop-rule-test.true c.rule-item.is in
    let before = c.loop-rule.invariant.0 in
    let is = sym c.exec_pattern.ensures ∙ ap (option_map (λ (p : Bor Pattern). p.now)) c.in-Some.is in
    let own = own-states c.rule-item.result c.in-Some.pattern.now is in
    let long = ap length c.text-bytes.ensures.text in
    let more = c.if-most-gt-MOST_EXEC_STATES.true in
    sym (most-already c.args.rules.now (c.loop-rule.rule-index + 1) (omega (arith, grown, before, own, long, more)))
