use Rattle.std.proofs.Common.{sym, subst}
use Rattle.aa_glob_nfa.specs.Graphs.{IsState}
use Rattle.aa_glob_nfa.proofs.SoundLemmas.{is_in_table}
use Rattle.aa_glob_run.proofs.drawing.Drawing.end.Goals as goal

pub end-requires-clause-is_state : goal.end-requires-clause-is_state
end-requires-clause-is_state c = is_in_table c.self.inside.tables c.args.state (subst (λ g. IsState g c.args.state) (sym c.self.view_is) c.requires)
