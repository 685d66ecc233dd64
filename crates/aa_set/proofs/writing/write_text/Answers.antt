use Rattle.std.proofs.Common.{◌≡◌, ◌∷◌, [], true, sym, refl}
use Rattle.std.proofs.lemmas.Result.{on_ok_weaker}
use Rattle.std.specs.List.{list_all}
use Rattle.aa_bytes.specs.Quoting.{is_shown, written_text}
use Rattle.aa_set.proofs.StreamLemmas.{Front-written, WritesBehind-nil, WritesBehind-same, WritesBehind-trans, weaker_err, where_err}
use Rattle.aa_set.proofs.writing.write_text.Goals as goal

pub returns-clause-ok : goal.returns-clause-ok
returns-clause-ok g c =
    let shown : list_all is_shown c.args.text.now ≡ true = sym c.if-not-are_shown.ensures in
    on_ok_weaker c.write_behind-3.result (λ last. WritesBehind-same (WritesBehind-trans (WritesBehind-trans c.in_ok-write_behind.ensures.ok c.in_ok-write_behind-2.ensures.ok) last) (rw shown refl)) c.write_behind-3.ensures.ok

pub returns-in_err-write_behind-clause-err : goal.returns-in_err-write_behind-clause-err
returns-in_err-write_behind-clause-err g c =
    let shown : list_all is_shown c.args.text.now ≡ true = sym c.if-not-are_shown.ensures in
    where_err c.from_residual.result (Front-written _ (34 ∷ []) (c.args.text.now ∷ (34 ∷ []) ∷ []) (written_text c.args.text.now) (WritesBehind-nil _ _) c.in_err-write_behind.ensures.err (rw shown refl))

pub returns-in_err-write_behind-2-clause-err : goal.returns-in_err-write_behind-2-clause-err
returns-in_err-write_behind-2-clause-err g c =
    let shown : list_all is_shown c.args.text.now ≡ true = sym c.if-not-are_shown.ensures in
    where_err c.from_residual-in_err-write_behind-2.result
    (Front-written _ c.args.text.now ((34 ∷ []) ∷ []) (written_text c.args.text.now) c.in_ok-write_behind.ensures.ok c.in_err-write_behind-2.ensures.err (rw shown refl))

pub returns-clause-err : goal.returns-clause-err
returns-clause-err g c =
    let shown : list_all is_shown c.args.text.now ≡ true = sym c.if-not-are_shown.ensures in
    weaker_err c.write_behind-3.result
    (λ broken. Front-written _ (34 ∷ []) [] (written_text c.args.text.now) (WritesBehind-trans c.in_ok-write_behind.ensures.ok c.in_ok-write_behind-2.ensures.ok) broken (rw shown refl)) c.write_behind-3.ensures.err
