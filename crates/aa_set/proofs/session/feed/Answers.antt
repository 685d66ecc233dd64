use Rattle.std.proofs.Common.{◌≡◌, ℕ, ◌+◌, ◌∷◌, [], ◌++◌, List, length, sym, ap, ◌∙◌, arith, append_assoc, length-append}
use Rattle.aa_set.proofs.RunLemmas.{Follows-same, Follows-kept}
use Rattle.aa_set.proofs.BreakLemmas.{front-longer, front-same}
use Rattle.aa_set.proofs.StreamLemmas.{where_err}
use Rattle.aa_set.proofs.session.feed.Goals as goal

pub loop-last-preserved : goal.loop-last-preserved
loop-last-preserved g c =
    let so_far = c.loop-last.invariant in
    let last = c.in-Some.last.now in
    let after = c.in-Some.after.now in
    let line = last ++ 10 ∷ [] in
    let whole : c.loop-last.rest.now ≡ line ++ after = c.in-Some.ensures.whole in
    let size : length c.loop-last.rest.now ≡ length last + 1 + length after = ap length whole ∙ length-append line after ∙ ap (λ (n : ℕ). n + length after) (length-append last (10 ∷ [])) in (
      so_far.0 ++ line,
      so_far.1 ∙ ap (λ (rest : List ℕ). so_far.0 ++ rest) whole ∙ sym (append_assoc so_far.0 line after),
      omega (arith, so_far.2, c.in_ok-end_line.ensures.counted),
      c.in_ok-end_line.ensures.flag ∙ so_far.3,
      λ begin before input follows.
          Follows-same c.args.files.now begin
          (c.in_ok-end_line.ensures.ok begin before (input ++ so_far.0) (so_far.4 begin before input follows))
          (append_assoc input so_far.0 line),
    )

pub returns-clause-ok : goal.returns-clause-ok
returns-clause-ok g c = λ begin before input follows.
    let so_far = c.loop-last.invariant in
    let rest = c.loop-last.rest.now in
    Follows-same c.args.files.now begin
    (Follows-kept c.args.files.now begin (so_far.4 begin before input follows) rest c.in_default.ensures.none c.keep.ensures)
    (append_assoc input so_far.0 rest ∙ ap (λ (fed : List ℕ). input ++ fed) (sym so_far.1))

pub returns-in_err-end_line-clause-err : goal.returns-in_err-end_line-clause-err
returns-in_err-end_line-clause-err g c =
    let so_far = c.loop-last.invariant in
    let after = c.in-Some.after.now in
    let line = c.in-Some.last.now ++ 10 ∷ [] in
    where_err c.from_residual.result (λ begin before input follows.
    front-same c.args.files.now begin
    (front-longer c.args.files.now begin (c.in_err-end_line.ensures.err begin before (input ++ so_far.0) (so_far.4 begin before input follows)) after)
    (append_assoc (input ++ so_far.0) line after ∙ ap (λ (l : List ℕ). (input ++ so_far.0) ++ l) (sym c.in-Some.ensures.whole) ∙ append_assoc input so_far.0 c.loop-last.rest.now
    ∙ ap (λ (l : List ℕ). input ++ l) (sym so_far.1)))
