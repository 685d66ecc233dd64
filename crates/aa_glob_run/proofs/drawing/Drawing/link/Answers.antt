use Rattle.std.proofs.Common.{sym, subst}
use Rattle.aa_glob_nfa.specs.Graphs.{IsState}
use Rattle.aa_glob_nfa.proofs.SoundLemmas.{is_in_table}
use Rattle.aa_glob_run.proofs.drawing.Drawing.link.Goals as goal

pub link-requires-clause-from : goal.link-requires-clause-from
link-requires-clause-from c = is_in_table c.self.inside.tables c.args.from (subst (λ g. IsState g c.args.from) (sym c.self.view_is) c.requires.from)

pub link-requires-clause-to : goal.link-requires-clause-to
link-requires-clause-to c = is_in_table c.self.inside.tables c.args.to (subst (λ g. IsState g c.args.to) (sym c.self.view_is) c.requires.to)
