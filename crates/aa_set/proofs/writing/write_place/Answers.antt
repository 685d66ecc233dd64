use Rattle.std.proofs.Common.{◌∷◌, [], refl}
use Rattle.std.specs.Fmt.{decimal}
use Rattle.aa_bytes.specs.Quoting.{written_text}
use Rattle.aa_set.specs.Reply.{place_text}
use Rattle.aa_text_files.specs.Files.{name_at}
use Rattle.std.proofs.lemmas.Result.{on_ok_weaker}
use Rattle.aa_set.proofs.StreamLemmas.{Front-written, WritesBehind-nil, WritesBehind-same, WritesBehind-trans, weaker_err, where_err}
use Rattle.aa_set.proofs.writing.write_place.Goals as goal

pub returns-clause-ok : goal.returns-clause-ok
returns-clause-ok g c =
    let first = WritesBehind-trans (WritesBehind-trans c.in_ok-write_behind.ensures.ok c.in_ok-write_text.ensures.ok) c.in_ok-write_behind-2.ensures.ok in
    on_ok_weaker c.write_number.result (λ last. WritesBehind-same (WritesBehind-trans first last) (rw (c.in-Some.is, c.file_name.ensures) refl)) c.write_number.ensures.ok

pub returns-in_err-write_behind-clause-err : goal.returns-in_err-write_behind-clause-err
returns-in_err-write_behind-clause-err g c =
    where_err c.from_residual.result
    (Front-written _ (32 ∷ []) (written_text (name_at c.args.files.now c.in-Some.place.file) ∷ (32 ∷ []) ∷ decimal c.in-Some.place.at ∷ []) (place_text c.args.files.now c.args.place)
    (WritesBehind-nil _ _) c.in_err-write_behind.ensures.err (rw (c.in-Some.is) refl))

pub returns-in_err-write_text-clause-err : goal.returns-in_err-write_text-clause-err
returns-in_err-write_text-clause-err g c =
    where_err c.from_residual-in_err-write_text.result
    (Front-written _ (written_text c.file_name.result.now) ((32 ∷ []) ∷ decimal c.in-Some.place.at ∷ []) (place_text c.args.files.now c.args.place)
    c.in_ok-write_behind.ensures.ok c.in_err-write_text.ensures.err (rw (c.in-Some.is, c.file_name.ensures) refl))

pub returns-in_err-write_behind-2-clause-err : goal.returns-in_err-write_behind-2-clause-err
returns-in_err-write_behind-2-clause-err g c =
    where_err c.from_residual-in_err-write_behind-2.result
    (Front-written _ (32 ∷ []) (decimal c.in-Some.place.at ∷ []) (place_text c.args.files.now c.args.place)
    (WritesBehind-trans c.in_ok-write_behind.ensures.ok c.in_ok-write_text.ensures.ok) c.in_err-write_behind-2.ensures.err (rw (c.in-Some.is, c.file_name.ensures) refl))

pub returns-clause-err : goal.returns-clause-err
returns-clause-err g c =
    let first = WritesBehind-trans (WritesBehind-trans c.in_ok-write_behind.ensures.ok c.in_ok-write_text.ensures.ok) c.in_ok-write_behind-2.ensures.ok in
    weaker_err c.write_number.result
    (λ broken. Front-written _ (decimal c.in-Some.place.at) [] (place_text c.args.files.now c.args.place) first broken (rw (c.in-Some.is, c.file_name.ensures) refl))
    c.write_number.ensures.err
