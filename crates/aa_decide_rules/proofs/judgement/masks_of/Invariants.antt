use Rattle.std.proofs.Common.{◌≡◌, drop}
use Rattle.aa_decide_rules.specs.Verdict.{allows, allows_aloud, audited, denied, denies, denies_aloud, granted, loud, with_covered}
use Rattle.aa_profile_data.specs.SeenRequests.{request_of}
use Rattle.aa_decide_rules.proofs.judgement.masks_of.Given as goal

-- what the rules so far cover and what the others do is what all do
abbrev pub invariant-loop-rule : goal.invariant-loop-rule
invariant-loop-rule l = let request = request_of l.fn.request in record {
  denied : with_covered request denies l.masks.denied.0 (drop l.rule-index l.rules) ≡ denied request l.rules;
  loud : with_covered request (denies_aloud l.audit) l.masks.loud.0 (drop l.rule-index l.rules) ≡ loud l.audit request l.rules;
  granted : with_covered request allows l.masks.granted.0 (drop l.rule-index l.rules) ≡ granted request l.rules;
  audited : with_covered request (allows_aloud l.audit) l.masks.audited.0 (drop l.rule-index l.rules) ≡ audited l.audit request l.rules;
}
