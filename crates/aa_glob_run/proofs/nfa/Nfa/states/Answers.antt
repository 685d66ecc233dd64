use Rattle.std.proofs.Common.{ap, arith, length}
use Rattle.aa_glob_nfa.proofs.TableLemmas.{length-entries_in}
use Rattle.aa_glob_run.proofs.nfa.Nfa.states.Goals as goal

pub returns : goal.returns
returns c =
    let t = c.self.inside.tables in
    omega (arith, c.len.ensures, length-entries_in t.classes.items 0 t.states, ap (λ g. length g.entries) c.self.view_is)
