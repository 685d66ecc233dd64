use Rattle.std.proofs.Common.{length, map, ap, sym, subst, ◌∙◌, arith}
use Rattle.std.proofs.lemmas.List.{length-map}
use Rattle.std.proofs.lemmas.Result.{IfOk-weaker}
use Rattle.aa_glob_nfa.specs.OfTables.{graph_of}
use Rattle.aa_glob_nfa.proofs.TableLemmas.{length-entries_in}
use Rattle.aa_glob_paths.specs.Reachable.{IsKeptBack}
use Rattle.aa_glob_paths.specs.Wanted.{has_wanted, MarksWanted, wanted_or_other}
use Rattle.aa_glob_paths.proofs.WantedLemmas.{kept-back, marks-own, marks-wanted}
use Rattle.aa_glob_paths.proofs.wanted.wanted_states.Goals as goal

pub belows_of-requires-clause-classed : goal.belows_of-requires-clause-classed
belows_of-requires-clause-classed c =
    let classed = c.requires.classed in
    let long = ap length (c.deref.ensures.value ∙ c.in_ok-others.ensures) ∙ length-map c.args.classes.now wanted_or_other in
    record {
      sound = classed.sound;
      sorted = classed.sorted;
      each_pattern = λ q p ends. omega (arith, classed.each_pattern q p ends, long);
    }

pub marked-requires-clause-count : goal.marked-requires-clause-count
marked-requires-clause-count c =
    let t = c.args.tables.now in
    c.len.ensures ∙ sym (length-entries_in t.classes.items 0 t.states) ∙ sym c.in_ok-belows.ensures.count

pub returns-clause-count : goal.returns-clause-count
returns-clause-count c =
    let t = c.args.tables.now in
    IfOk-weaker c.marked.result _ _ (λ wanted is.
    ap length is ∙ length-map c.in_ok-belows.belows has_wanted ∙ c.in_ok-belows.ensures.count ∙ length-entries_in t.classes.items 0 t.states) c.marked.ensures

pub returns-clause-back : goal.returns-clause-back
returns-clause-back c =
    let g = graph_of c.args.tables.now in
    IfOk-weaker c.marked.result _ _ (λ wanted is.
    subst (IsKeptBack g) (sym is) (kept-back g c.deref.result.now c.in_ok-belows.belows c.requires.later c.in_ok-belows.ensures)) c.marked.ensures

pub returns-clause-ends : goal.returns-clause-ends
returns-clause-ends c =
    let g = graph_of c.args.tables.now in
    IfOk-weaker c.marked.result _ _ (λ wanted is.
    let others = c.deref.ensures.value ∙ c.in_ok-others.ensures in
    subst (MarksWanted g c.args.classes.now) (sym is)
    (marks-own g c.args.classes.now _ (subst (λ classes. MarksWanted g classes (map has_wanted c.in_ok-belows.belows)) others
    (marks-wanted g c.deref.result.now c.in_ok-belows.belows c.in_ok-belows.ensures)))) c.marked.ensures
