use Rattle.aa_decide_ready.proofs.section.ReadySection.decide.Goals as goal

pub returns-in_err-places-in-File-clause-steps : goal.returns-in_err-places-in-File-clause-steps
returns-in_err-places-in-File-clause-steps c = rw c.in-File.is c.matching_rules.ensures.steps

pub returns-in_ok-places-in-File-clause-verdict : goal.returns-in_ok-places-in-File-clause-verdict
returns-in_ok-places-in-File-clause-verdict c =
    let flag = c.args.self.audit in
    let rules = c.args.self.rules.now in
    let places = c.in_ok-places-in-File.places.items in
    let same = c.what_matching_rules_decide.ensures c.args.mediation flag rules c.in-File.needs.0 c.in-File.owned c.in-File.path.now places c.in_ok-places-in-File.ensures.found c.in_ok-places-in-File.ensures.rise in
    rw (c.found_verdict.ensures, c.as_slice.ensures.value, c.in-File.is) same

pub returns-in_ok-places-in-File-clause-steps : goal.returns-in_ok-places-in-File-clause-steps
returns-in_ok-places-in-File-clause-steps c = rw c.in-File.is c.matching_rules.ensures.steps
