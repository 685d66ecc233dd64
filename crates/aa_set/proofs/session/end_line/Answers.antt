use Rattle.std.proofs.Common.{ℕ, ◌∷◌, [], ◌++◌, List, length, take, sym, ap, ◌∙◌, subst, refl}
use Rattle.std.proofs.lemmas.Bool.{eqb-true}
use Rattle.std.proofs.lemmas.List.{nil_from_length}
use Rattle.std.proofs.lemmas.Result.{on_ok_weaker}
use Rattle.aa_set_manager.specs.Outcomes.{line_outcome}
use Rattle.aa_set.specs.code.Session.{IsCut}
use Rattle.aa_set.proofs.LineLemmas.{nothing_held, take-of_front}
use Rattle.aa_set.proofs.RunLemmas.{IsCut-ended, IsAfter-line, outcome-front}
use Rattle.aa_set.proofs.BreakLemmas.{front-cut, front-line-same}
use Rattle.aa_set.proofs.StreamLemmas.{weaker_err}
use Rattle.aa_set.proofs.session.end_line.Goals as goal

pub returns-then-is_empty-clause-ok : goal.returns-then-is_empty-clause-ok
returns-then-is_empty-clause-ok g c =
    on_ok_weaker c.answer.result (λ answers begin before input follows.
    let next = answers begin before follows.lines follows.after in
    let none = eqb-true (length c.args.held.now) 0 (sym c.is_empty.ensures ∙ c.if-is_empty.true) in
    let nothing = nothing_held 65536 follows.cut.unfinished (ap length (sym follows.cut.held) ∙ none) in
    let line = ap (λ (text : List ℕ). text ++ c.args.last.now) (sym nothing) in
    let cut = IsCut-ended follows.cut c.args.last.now (c.args.last.now, next.0) c.requires.one_line line in
    record {
      lines = follows.lines ++ (c.args.last.now, next.0) ∷ [];
      after = next.1;
      cut = subst (λ (buffer : List ℕ). IsCut (input ++ (c.args.last.now ++ 10 ∷ [])) (follows.lines ++ (c.args.last.now, next.0) ∷ []) buffer) (sym (nil_from_length c.args.held.now none)) cut;
    })
    c.answer.ensures.ok

pub returns-clause-ok : goal.returns-clause-ok
returns-clause-ok g c =
    on_ok_weaker c.answer-outcome.result (λ answers begin before input follows.
    let next = answers begin before follows.lines follows.after in
    let line = follows.cut.unfinished ++ c.args.last.now in
    let front = c.as_slice.ensures ∙ c.keep.ensures ∙ ap (λ (text : List ℕ). take 65537 (text ++ c.args.last.now)) follows.cut.held ∙ take-of_front 65537 follows.cut.unfinished c.args.last.now in
    let cut = IsCut-ended follows.cut c.args.last.now (line, next.0) c.requires.one_line refl in
    record {
      lines = follows.lines ++ (line, next.0) ∷ [];
      after = IsAfter-line c.args.files.now begin follows.lines c.as_slice.result.now line next.0
          (λ m. ap (λ (text : List ℕ). line_outcome c.args.files.now m text next.0) front ∙ outcome-front c.args.files.now m line next.0) next.1;
      cut = subst (λ (buffer : List ℕ). IsCut (input ++ (c.args.last.now ++ 10 ∷ [])) (follows.lines ++ (line, next.0) ∷ []) buffer) (sym c.clear.ensures) cut;
    })
    c.answer-outcome.ensures.ok

pub returns-then-is_empty-clause-err : goal.returns-then-is_empty-clause-err
returns-then-is_empty-clause-err g c =
    weaker_err c.answer.result (λ breaks begin before input follows.
    let next = breaks begin before follows.lines follows.after in
    let none = eqb-true (length c.args.held.now) 0 (sym c.is_empty.ensures ∙ c.if-is_empty.true) in
    let nothing = nothing_held 65536 follows.cut.unfinished (ap length (sym follows.cut.held) ∙ none) in
    let line = ap (λ (text : List ℕ). text ++ c.args.last.now) (sym nothing) in
    front-cut c.args.files.now begin (IsCut-ended follows.cut c.args.last.now (c.args.last.now, next.0) c.requires.one_line line) next.1)
    c.answer.ensures.err

pub returns-clause-err : goal.returns-clause-err
returns-clause-err g c =
    weaker_err c.answer-outcome.result (λ breaks begin before input follows.
    let next = breaks begin before follows.lines follows.after in
    let line = follows.cut.unfinished ++ c.args.last.now in
    let front = c.as_slice.ensures ∙ c.keep.ensures ∙ ap (λ (text : List ℕ). take 65537 (text ++ c.args.last.now)) follows.cut.held ∙ take-of_front 65537 follows.cut.unfinished c.args.last.now in
    front-cut c.args.files.now begin (IsCut-ended follows.cut c.args.last.now (line, next.0) c.requires.one_line refl)
    (front-line-same c.args.files.now begin before (g.W.Sink.written c.answer-outcome.new.writer) follows.lines c.as_slice.result.now line next.0
    (λ m. ap (λ (text : List ℕ). line_outcome c.args.files.now m text next.0) front ∙ outcome-front c.args.files.now m line next.0) next.1))
    c.answer-outcome.ensures.err
