use Rattle.std.proofs.Common.{arith}
use Rattle.aa_glob_run.proofs.MemoLemmas.{memo-added}
use Rattle.aa_glob_run.specs.code.Memos.{fronts_in}
use Rattle.aa_glob_run.proofs.memo.Memo.place.Goals as goal

pub returns-in-None-clause-memo : goal.returns-in-None-clause-memo
returns-in-None-clause-memo c g room memo live =
    let before = c.args.self.now in
    let after = c.add.new.self in
    memo-added g room (fronts_in before) (fronts_in after) before.moves.items after.moves.items c.args.states.now c.add.result memo live
    (λ none. absurd (omega (arith, none, c.requires.some))) c.add.ensures.fronts c.add.ensures.moves c.add.ensures.same c.add.ensures.still
