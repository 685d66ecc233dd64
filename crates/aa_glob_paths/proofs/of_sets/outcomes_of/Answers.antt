use Rattle.std.proofs.Common.{◌≡◌, length, subst, sym, arith}
use Rattle.std.proofs.lemmas.Result.{IfOk-weaker}
use Rattle.aa_glob_nfa.specs.OfTables.{graph_of}
use Rattle.aa_glob_paths.specs.code.AllTexts.{AreOutcomesBefore}
use Rattle.aa_glob_paths.specs.code.Kept.{kept_outcomes}
use Rattle.aa_glob_paths.proofs.of_sets.outcomes_of.Goals as goal

pub returns : goal.returns
returns c =
    let g = graph_of c.args.tables.now in
    let sets = c.args.sets.now in
    let end : c.loop-number.number ≡ length sets = omega arith in
    IfOk-weaker c.listed.result _ _ (λ outcomes is.
    subst (AreOutcomesBefore g c.args.classes.now sets (length sets)) (sym is) (subst (λ n. AreOutcomesBefore g c.args.classes.now sets n (kept_outcomes c.loop-number.kept.entries)) end c.loop-number.invariant))
    c.listed.ensures
