use Rattle.std.proofs.Common.{[], arith}
use Rattle.aa_text_expansion.proofs.PartLemmas.{parts-closed, parts-open}
use Rattle.aa_text_expansion.proofs.parts.read_name.Goals as goal

pub returns-then-size-text-clause-value : goal.returns-then-size-text-clause-value
returns-then-size-text-clause-value c = rw (c.behind.ensures, c.name_size-size.ensures.value) (parts-closed [] c.args.text.now (omega arith))

pub returns-else-size-text-clause-value : goal.returns-else-size-text-clause-value
returns-else-size-text-clause-value c = parts-open [] c.args.text.now (omega arith)
