use Rattle.std.proofs.Common.{arith}
use Rattle.aa_profile_grammar.proofs.PreambleLemmas.{assignment-some}
use Rattle.aa_profile_grammar.proofs.preamble.read_assignment.Goals as goal

pub returns-clause-ok : goal.returns-clause-ok
returns-clause-ok c = assignment-some c.args.sign c.args.append c.args.tokens.now c.value_count-count.result c.value_count-count.ensures.count (omega arith)
