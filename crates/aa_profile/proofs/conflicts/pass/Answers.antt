use Rattle.std.proofs.Common.{◌≡◌, ◌∙◌, arith, length, Some, sym}
use Rattle.aa_profile_rules.specs.SeenRules.{seen_rule}
use Rattle.aa_profile.specs.Profiles.{rules_of_rule}
use Rattle.aa_profile.proofs.ConflictLemmas.{passes-behind, passes-here, passes-none, rules-counted}
use Rattle.aa_profile.proofs.conflicts.pass.Goals as goal

pub returns-in_default-clause-passes : goal.returns-in_default-clause-passes
returns-in_default-clause-passes c = rw c.in_default.is (passes-none c.args.language c.args.table.now (seen_rule c.args.rule.now))

pub returns-then-many-made-clause-passes : goal.returns-then-many-made-clause-passes
returns-then-many-made-clause-passes c =
    let made : c.in_ok-made.made ≡ length (rules_of_rule c.args.language c.args.table.now (seen_rule c.args.rule.now)) =
    c.in_ok-made.ensures.count ∙ sym (rules-counted c.args.language c.args.table.now (seen_rule c.args.rule.now)) in
    let less = c.if-many-made.true in
    rw c.in-Some.is (passes-here c.args.language c.args.table.now (seen_rule c.args.rule.now) c.in-Some.many (Some c.in-Some.many) c.pattern_of.result (omega arith) c.pattern_of.ensures)

pub returns-clause-passes : goal.returns-clause-passes
returns-clause-passes c =
    let made : c.in_ok-made.made ≡ length (rules_of_rule c.args.language c.args.table.now (seen_rule c.args.rule.now)) =
    c.in_ok-made.ensures.count ∙ sym (rules-counted c.args.language c.args.table.now (seen_rule c.args.rule.now)) in
    let more = c.if-many-made.false in
    rw (c.in-Some.is, made) (passes-behind c.args.language c.args.table.now (seen_rule c.args.rule.now) c.in-Some.many (omega arith))
