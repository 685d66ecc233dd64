use Rattle.std.proofs.Common.{◌∷◌, refl, subst, sym}
use Rattle.std.proofs.lemmas.Result.{on_ok_weaker}
use Rattle.aa_glob_nfa.specs.OfTables.{graph_of}
use Rattle.aa_glob_nfa.proofs.RunLemmas.{begun-whole}
use Rattle.aa_glob_nfa.specs.Runs.{IsBegun}
use Rattle.aa_glob_paths.proofs.fronts.follow.Goals as goal

pub returns-clause-leads : goal.returns-clause-leads
returns-clause-leads c =
    let g = graph_of c.args.tables.now in
    on_ok_weaker c.pass-2.result (λ closed past at. closed.whole (c.args.byte ∷ past)
    (c.in_ok-pass.ensures.passed.begun past c.args.byte refl
    (subst (λ l. IsBegun g past l.states) (sym c.in_ok-fill.ensures) (begun-whole g past c.args.from.now at)))) c.pass-2.ensures.passed
