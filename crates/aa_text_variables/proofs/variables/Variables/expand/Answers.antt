use Rattle.std.proofs.Common.{◌≡◌, ◌<◌, ◌∙◌, ap, sym, take, length, arith}
use Rattle.std.proofs.lemmas.List.{length-map}
use Rattle.aa_text_expansion.specs.Joining.{most_kept}
use Rattle.aa_text_variables.specs.Expansions.{expansions}
use Rattle.aa_text_variables.proofs.variables.Variables.expand.Goals as goal

pub returns-clause-some : goal.returns-clause-some
returns-clause-some c =
    let all = expansions c.args.self.now c.args.text.now in
    let some : 0 < length all = c.in_ok-order.ensures.some in
    let texts = c.in_ok-expanded_by.field-0.items in
    let sizes : length texts ≡ length all = sym (length-map texts (λ t. t.items)) ∙ ap length c.in_ok-expanded_by.ensures ∙ length-map all (take most_kept) in
    omega arith
