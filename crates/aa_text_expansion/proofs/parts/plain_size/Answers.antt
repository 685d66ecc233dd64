use Rattle.std.proofs.Common.{sym, arith}
use Rattle.aa_text_expansion.proofs.PartLemmas.{plain_size-no_at}
use Rattle.aa_text_expansion.proofs.parts.plain_size.Goals as goal

pub returns-in-None-clause-value : goal.returns-in-None-clause-value
returns-in-None-clause-value c = sym (plain_size-no_at c.args.text.now (λ k below. c.in-None.ensures k (omega arith) below))
