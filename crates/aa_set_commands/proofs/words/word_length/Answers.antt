use Rattle.aa_set_commands.specs.Words.{is_command_blank}
use Rattle.aa_set_commands.proofs.LineLemmas.{length-all, length-before}
use Rattle.aa_set_commands.proofs.words.word_length.Goals as goal

pub returns-in-Some-clause-value : goal.returns-in-Some-clause-value
returns-in-Some-clause-value c = length-before is_command_blank c.args.text.now c.in-Some.end c.in-Some.ensures

pub returns-in-None-clause-value : goal.returns-in-None-clause-value
returns-in-None-clause-value c = length-all is_command_blank c.args.text.now c.in-None.ensures
