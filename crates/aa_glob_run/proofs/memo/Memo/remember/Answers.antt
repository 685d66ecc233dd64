use Rattle.std.proofs.Common.{subst, sym, arith}
use Rattle.aa_glob_run.proofs.MemoLemmas.{memo-note}
use Rattle.aa_glob_nfa.specs.Runs.{LeadsTo}
use Rattle.aa_glob_run.specs.code.Memos.{fronts_in, front_at}
use Rattle.aa_glob_run.proofs.memo.Memo.remember.Goals as goal

pub returns-clause-memo : goal.returns-clause-memo
returns-clause-memo c g room memo leads live = rw (c.note.ensures.fronts, c.note.ensures.moves)
    (let placed = c.place.new.self in
    let number = c.args.number in
    let kept = c.place.ensures.kept number c.requires.within in
    memo-note g room (fronts_in placed) placed.moves.items number c.args.byte c.in_ok-to.to (c.place.ensures.memo g room memo live)
    kept.0 (omega arith) c.in_ok-to.ensures.within.0
    (subst (λ from. LeadsTo g from c.args.byte (front_at placed c.in_ok-to.to)) (sym kept.1) (subst (LeadsTo g (front_at c.args.self.now number) c.args.byte) (sym c.in_ok-to.ensures.same) leads)))

pub returns-in_err-to-clause-memo : goal.returns-in_err-to-clause-memo
returns-in_err-to-clause-memo c g room memo leads live = c.place.ensures.memo g room memo live
