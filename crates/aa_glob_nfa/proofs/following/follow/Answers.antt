use Rattle.std.proofs.Common.{◌∷◌, refl, subst, sym}
use Rattle.aa_glob_nfa.specs.OfTables.{graph_of}
use Rattle.aa_glob_nfa.proofs.RunLemmas.{begun-whole}
use Rattle.std.proofs.lemmas.Result.{IfOk-weaker}
use Rattle.aa_glob_nfa.specs.Runs.{LeadsTo}
use Rattle.aa_glob_nfa.specs.Runs.{IsBegun}
use Rattle.aa_glob_nfa.proofs.following.follow.Goals as goal

pub returns-clause-leads : goal.returns-clause-leads
returns-clause-leads c =
    let g = graph_of c.args.tables.now in
    IfOk-weaker c.close.result _ (λ to. LeadsTo g c.args.from.now c.args.byte to.items)
    (λ to whole past at. whole (c.args.byte ∷ past)
    (c.in_ok-pass.ensures.passed.begun past c.args.byte refl (subst (λ l. IsBegun g past l.states) (sym c.in_ok-here.ensures) (begun-whole g past c.args.from.now at))))
    c.close.ensures.whole
