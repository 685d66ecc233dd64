use Rattle.std.proofs.Common.{sym, ap, ◌∙◌, [], Some}
use Rattle.aa_text_expansion.specs.Parts.{parts_behind}
use Rattle.aa_text_expansion.proofs.PartLemmas.{parts-name, parts-text}
use Rattle.aa_text_expansion.proofs.parts.first_part.Goals as goal

pub returns-then-begins_name-clause-value : goal.returns-then-begins_name-clause-value
returns-then-begins_name-clause-value c = c.read_name.ensures.value ∙ ap (parts_behind (Some [])) c.behind.ensures ∙ parts-name c.args.text.now (sym c.begins_name.ensures.value ∙ c.if-begins_name.true)

pub returns-clause-value : goal.returns-clause-value
returns-clause-value c = rw (c.behind-2.ensures, c.plain_size-size.ensures.value) (parts-text c.args.text.now)
