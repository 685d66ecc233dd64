use Rattle.std.proofs.Common.{[]}
use Rattle.aa_glob.proofs.automaton.Automaton.build.Goals as goal

pub returns : goal.returns
returns c = c.finish.ensures c.args.patterns.now (c.in_ok-added.ensures [] c.in_ok-builder.ensures)
