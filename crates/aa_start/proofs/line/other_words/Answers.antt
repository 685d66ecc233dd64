use Rattle.std.proofs.Common.{◌≡◌, ap, ap₂, ◌∙◌}
use Rattle.std.specs.Prelude.{Option, Some, None, IsSomeAnd}
use Rattle.aa_start.proofs.line.other_words.Goals as goal
use Rattle.clap.specs.Lexer.{usize_max}
use Rattle.clap.specs.Words.{Rule, new_rule, rule_of}
use Rattle.clap.specs.declared.builder.ArgAction.TheVariants.{Append}

some_that : {X : Type 0} (found : Option X) (x : X) → IsSomeAnd found (λ y. y ≡ x) → found ≡ Some x
some_that None x h = absurd h
some_that (Some y) x h = ap (λ z. Some z) h

-- What each builder says of its own setting, one after the other, is the argument.
pub returns-clause-rule : goal.returns-clause-rule
returns-clause-rule c =
    let range = some_that c.num_args.result.num_vals (record { start_inclusive = 1; end_inclusive = usize_max }) c.num_args.ensures.1 in
    let required : rule_of c.required.result ≡ record (new_rule c.args.id.now) { required = c.args.is_required } =
    ap rule_of c.required.ensures ∙ ap (λ (rule : Rule). record rule { required = c.args.is_required }) c.new.ensures.rule in
    let numbered : rule_of c.num_args.result ≡ record (rule_of c.required.result) { range = c.num_args.result.num_vals } = ap rule_of c.num_args.ensures.0 in
    let acted : rule_of c.action.result ≡ record (rule_of c.num_args.result) { action = Some Append } = ap rule_of c.action.ensures in
    let helped : rule_of c.help.result ≡ rule_of c.action.result = ap rule_of c.help.ensures in
    helped ∙ acted ∙ ap (λ (rule : Rule). record rule { action = Some Append })
    (numbered ∙ ap₂ (λ (rule : Rule) r. record rule { range = r }) required range)
