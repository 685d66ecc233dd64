use Rattle.std.proofs.Common.{[], length, subst, sym}
use Rattle.aa_glob_nfa.specs.OfTables.{graph_of}
use Rattle.aa_glob_nfa.specs.Fronts.{IsLive}
use Rattle.aa_glob_nfa.specs.Runs.{IsWhole}
use Rattle.aa_glob_run.proofs.MemoLemmas.{memo-added}
use Rattle.aa_glob_run.specs.code.Memos.{fronts_in}
use Rattle.aa_glob_run.proofs.memo.Memo.begin.Goals as goal

pub returns-in_ok-add-clause-memo : goal.returns-in_ok-add-clause-memo
returns-in_ok-add-clause-memo c =
    let t = c.args.tables.now in
    let before = c.args.self.now in
    let after = c.add.new.self in
    let states = c.deref.result.now in
    let same = sym c.deref.ensures.value in
    memo-added (graph_of t) (length t.states) (fronts_in before) (fronts_in after) before.moves.items after.moves.items states c.add.result c.requires.memo
    (subst (IsLive (length t.states)) same c.in_ok-states.ensures.live) (λ none. subst (IsWhole (graph_of t) []) same c.in_ok-states.ensures.whole)
    c.add.ensures.fronts c.add.ensures.moves c.add.ensures.same c.add.ensures.still
