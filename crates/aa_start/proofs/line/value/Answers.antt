use Rattle.std.proofs.Common.{◌≡◌, Some, ap, ◌∙◌}
use Rattle.aa_start.proofs.line.value.Goals as goal
use Rattle.clap.specs.Words.{Rule, new_rule, rule_of}
use Rattle.clap.specs.declared.builder.ArgAction.TheVariants.{Set}

-- What each builder says of its own setting, one after the other, is the argument.
pub returns-clause-rule : goal.returns-clause-rule
returns-clause-rule c =
    let short : rule_of c.short.result ≡ record (new_rule c.args.id.now) { short = Some c.args.letter } =
    ap rule_of c.short.ensures ∙ ap (λ (rule : Rule). record rule { short = Some c.args.letter }) c.new.ensures.rule in
    let acted : rule_of c.action.result ≡ record (rule_of c.short.result) { action = Some Set } = ap rule_of c.action.ensures in
    let helped : rule_of c.help.result ≡ rule_of c.action.result = ap rule_of c.help.ensures in
    helped ∙ acted ∙ ap (λ (rule : Rule). record rule { action = Some Set }) short
