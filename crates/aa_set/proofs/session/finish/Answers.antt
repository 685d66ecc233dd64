use Rattle.std.proofs.Common.{ℕ, List, [], ◌∷◌, ◌++◌, length, sym, ap, ◌∙◌}
use Rattle.std.proofs.lemmas.Bool.{eqb-true, eqb-false}
use Rattle.std.proofs.lemmas.Result.{on_ok_weaker}
use Rattle.aa_set_manager.specs.Outcomes.{line_outcome}
use Rattle.aa_set.proofs.RunLemmas.{IsAfter-line, IsAnswered-all, outcome-front, lines-ended, lines-unfinished}
use Rattle.aa_set.proofs.BreakLemmas.{front-all, front-line-same, front-waiting}
use Rattle.aa_set.proofs.StreamLemmas.{weaker_err, where_err}
use Rattle.aa_set.proofs.session.finish.Goals as goal

pub returns-then-is_empty-clause-ok : goal.returns-then-is_empty-clause-ok
returns-then-is_empty-clause-ok g c =
    let none = eqb-true (length c.args.held.now) 0 (sym c.is_empty.ensures ∙ c.if-is_empty.true) in
    on_ok_weaker c.flush.result (λ flushed begin before input follows.
    IsAnswered-all c.args.files.now begin input (lines-ended follows.cut none) follows.after flushed)
    c.flush.ensures.ok

pub returns-clause-ok : goal.returns-clause-ok
returns-clause-ok g c =
    let some = eqb-false (length c.args.held.now) 0 (sym c.is_empty.ensures ∙ c.if-is_empty.false) in
    on_ok_weaker c.flush-2.result (λ flushed begin before input follows.
    let next = c.in_ok-answer.ensures.ok begin before follows.lines follows.after in
    let line = follows.cut.unfinished in
    let front = c.as_slice.ensures ∙ follows.cut.held in
    let after = IsAfter-line c.args.files.now begin follows.lines c.as_slice.result.now line next.0
    (λ m. ap (λ (text : List ℕ). line_outcome c.args.files.now m text next.0) front ∙ outcome-front c.args.files.now m line next.0) next.1 in
    IsAnswered-all c.args.files.now begin input (lines-unfinished follows.cut next.0 some) after flushed)
    c.flush-2.ensures.ok

pub returns-then-is_empty-clause-err : goal.returns-then-is_empty-clause-err
returns-then-is_empty-clause-err g c =
    let none = eqb-true (length c.args.held.now) 0 (sym c.is_empty.ensures ∙ c.if-is_empty.true) in
    weaker_err c.flush.result (λ broken begin before input follows.
    front-all c.args.files.now begin input follows.lines (lines-ended follows.cut none)
    (front-waiting c.args.files.now begin (g.W.Sink.written c.flush.new.writer) follows.after broken))
    c.flush.ensures.err

pub returns-in_err-answer-clause-err : goal.returns-in_err-answer-clause-err
returns-in_err-answer-clause-err g c =
    let some = eqb-false (length c.args.held.now) 0 (sym c.is_empty.ensures ∙ c.if-is_empty.false) in
    where_err c.from_residual.result (λ begin before input follows.
    let next = c.in_err-answer.ensures.err begin before follows.lines follows.after in
    let line = follows.cut.unfinished in
    let front = c.as_slice.ensures ∙ follows.cut.held in
    front-all c.args.files.now begin input (follows.lines ++ (line, next.0) ∷ []) (lines-unfinished follows.cut next.0 some)
    (front-line-same c.args.files.now begin before (g.W.Sink.written c.answer.new.writer) follows.lines c.as_slice.result.now line next.0
    (λ m. ap (λ (text : List ℕ). line_outcome c.args.files.now m text next.0) front ∙ outcome-front c.args.files.now m line next.0) next.1))

pub returns-clause-err : goal.returns-clause-err
returns-clause-err g c =
    let some = eqb-false (length c.args.held.now) 0 (sym c.is_empty.ensures ∙ c.if-is_empty.false) in
    weaker_err c.flush-2.result (λ broken begin before input follows.
    let next = c.in_ok-answer.ensures.ok begin before follows.lines follows.after in
    let line = follows.cut.unfinished in
    let front = c.as_slice.ensures ∙ follows.cut.held in
    let after = IsAfter-line c.args.files.now begin follows.lines c.as_slice.result.now line next.0
    (λ m. ap (λ (text : List ℕ). line_outcome c.args.files.now m text next.0) front ∙ outcome-front c.args.files.now m line next.0) next.1 in
    front-all c.args.files.now begin input (follows.lines ++ (line, next.0) ∷ []) (lines-unfinished follows.cut next.0 some)
    (front-waiting c.args.files.now begin (g.W.Sink.written c.flush-2.new.writer) after broken))
    c.flush-2.ensures.err
