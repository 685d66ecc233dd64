use Rattle.std.proofs.Common.{◌∙◌}
use Rattle.aa_decide_rules.specs.Verdict.{allows, allows_aloud, denies, denies_aloud}
use Rattle.aa_decide_rules.proofs.VerdictLemmas.{mask-step}
use Rattle.aa_profile_data.specs.SeenRequests.{request_of}
use Rattle.aa_decide_rules.proofs.judgement.masks_of.Goals as goal

pub loop-rule-preserved : goal.loop-rule-preserved
loop-rule-preserved c =
    let request = request_of c.args.request.now in
    let rules = c.args.rules.now in
    let at = c.loop-rule.rule-index in
    let masks = c.loop-rule.masks in
    let next = c.with_rule-masks.result in
    record {
      denied = mask-step request denies masks.denied.0 next.denied.0 rules at c.rule-item.result c.loop-rule-test.true c.rule-item.is c.with_rule-masks.ensures.denied ∙ c.loop-rule.invariant.denied;
      loud = mask-step request (denies_aloud c.args.audit) masks.loud.0 next.loud.0 rules at c.rule-item.result c.loop-rule-test.true c.rule-item.is c.with_rule-masks.ensures.loud ∙ c.loop-rule.invariant.loud;
      granted = mask-step request allows masks.granted.0 next.granted.0 rules at c.rule-item.result c.loop-rule-test.true c.rule-item.is c.with_rule-masks.ensures.granted ∙ c.loop-rule.invariant.granted;
      audited = mask-step request (allows_aloud c.args.audit) masks.audited.0 next.audited.0 rules at c.rule-item.result c.loop-rule-test.true c.rule-item.is c.with_rule-masks.ensures.audited ∙ c.loop-rule.invariant.audited;
    }
