use Rattle.std.proofs.Common.{◌∙◌}
use Rattle.aa_decide_rules.specs.declared.judgement.Mediation.TheVariants.{Enforcing}
use Rattle.aa_explain_paths.proofs.letting.matched_verdict.Goals as goal

pub returns : goal.returns
returns c =
    let matched = c.args.matched in
    c.found_verdict.ensures
    ∙ c.what_matching_rules_decide.ensures Enforcing c.args.audit matched.rules.now c.args.letters.0 c.args.owned matched.path.now matched.places.now
    c.requires.found c.requires.rise
