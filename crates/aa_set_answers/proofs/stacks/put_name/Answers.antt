use Rattle.std.proofs.Common.{ap, ◌∙◌}
use Rattle.aa_set_answers.proofs.StackNameLemmas.{bytes-put, bytes_of}
use Rattle.aa_set_answers.proofs.stacks.put_name.Goals as goal

pub returns : goal.returns
returns c = ap bytes_of c.in_ok-insert.ensures.keys ∙ bytes-put c.args.names.now.keys c.args.name
