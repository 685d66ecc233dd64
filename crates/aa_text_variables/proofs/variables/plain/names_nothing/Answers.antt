use Rattle.std.proofs.Common.{not, true, ap, ◌∙◌, rules}
use Rattle.aa_text_expansion.specs.Parts.{parts}
use Rattle.aa_text_variables.proofs.PlainLemmas.{none-named}
use Rattle.aa_text_variables.proofs.variables.plain.names_nothing.Goals as goal

pub returns : goal.returns
returns c = ap not (c.has_missing.ensures (λ name. true) (λ name answer says. search rules)) ∙ none-named (parts c.args.text.now)
