use Rattle.aa_set_commands.specs.Words.{is_quote}
use Rattle.aa_set_commands.proofs.LineLemmas.{length-all, length-before}
use Rattle.aa_set_commands.proofs.words.quoted_length.Goals as goal

pub returns-in-Some-clause-value : goal.returns-in-Some-clause-value
returns-in-Some-clause-value c = length-before is_quote c.args.text.now c.in-Some.end c.in-Some.ensures

pub returns-in-None-clause-value : goal.returns-in-None-clause-value
returns-in-None-clause-value c = length-all is_quote c.args.text.now c.in-None.ensures
