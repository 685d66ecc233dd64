use Rattle.std.proofs.Common.{subst}
use Rattle.aa_glob_nfa.specs.Graphs.{SameGraph}
use Rattle.aa_glob_run.proofs.ReachLemmas.{same_runs}
use Rattle.aa_glob_run.proofs.drawing.Drawing.finish.Goals as goal

pub returns-clause-runs : goal.returns-clause-runs
returns-clause-runs c = same_runs _ _ (subst (λ g. SameGraph g c.of.result) c.self.view_is c.of.ensures)
