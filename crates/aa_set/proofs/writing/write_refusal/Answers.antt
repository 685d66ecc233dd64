use Rattle.std.proofs.Common.{ℕ, List, [], ◌∷◌, ◌++◌, codes, ap, ◌∙◌, refl}
use Rattle.std.proofs.lemmas.Result.{on_ok_weaker}
use Rattle.std.specs.Fmt.{decimal}
use Rattle.aa_set_commands.specs.Refusal.{name_of, number_of}
use Rattle.aa_set.specs.Reply.{place_text, refusal_text}
use Rattle.aa_set.proofs.StreamLemmas.{Front-written, WritesBehind-nil, WritesBehind-same, WritesBehind-trans, weaker_err, where_err}
use Rattle.aa_set.proofs.writing.write_refusal.Goals as goal

pub returns-clause-ok : goal.returns-clause-ok
returns-clause-ok g c =
    let first = WritesBehind-trans (WritesBehind-trans (WritesBehind-trans (WritesBehind-trans c.in_ok-write_behind.ensures.ok c.in_ok-write_number.ensures.ok) c.in_ok-write_behind-2.ensures.ok) c.in_ok-write_behind-3.ensures.ok) c.in_ok-write_place.ensures.ok in
    let place = place_text c.args.files.now c.args.refusal.place in
    let numbered = ap (λ (n : ℕ). codes "refused " ++ decimal n ++ codes " " ++ c.as_bytes.result.now ++ place ++ 10 ∷ []) (c.from.ensures ∙ c.number.ensures) in
    let named = ap (λ (name : List ℕ). codes "refused " ++ decimal (number_of c.args.refusal.refusal) ++ codes " " ++ name ++ place ++ 10 ∷ []) (c.as_bytes.ensures.value ∙ c.name.ensures) in
    on_ok_weaker c.write_behind-4.result (λ last. WritesBehind-same (WritesBehind-trans first last) (numbered ∙ named)) c.write_behind-4.ensures.ok

pub returns-in_err-write_behind-clause-err : goal.returns-in_err-write_behind-clause-err
returns-in_err-write_behind-clause-err g c =
    let place = place_text c.args.files.now c.args.refusal.place in
    where_err c.from_residual.result
    (Front-written _ (codes "refused ") (decimal (number_of c.args.refusal.refusal) ∷ codes " " ∷ name_of c.args.refusal.refusal ∷ place ∷ (10 ∷ []) ∷ []) (refusal_text c.args.files.now c.args.refusal)
    (WritesBehind-nil _ _) c.in_err-write_behind.ensures.err refl)

pub returns-in_err-write_number-clause-err : goal.returns-in_err-write_number-clause-err
returns-in_err-write_number-clause-err g c =
    let place = place_text c.args.files.now c.args.refusal.place in
    where_err c.from_residual-in_err-write_number.result
    (Front-written _ (decimal c.from.result) (codes " " ∷ name_of c.args.refusal.refusal ∷ place ∷ (10 ∷ []) ∷ []) (refusal_text c.args.files.now c.args.refusal)
    c.in_ok-write_behind.ensures.ok c.in_err-write_number.ensures.err
    (ap (λ (n : ℕ). codes "refused " ++ decimal n ++ codes " " ++ name_of c.args.refusal.refusal ++ place ++ 10 ∷ []) (c.from.ensures ∙ c.number.ensures)))

pub returns-in_err-write_behind-2-clause-err : goal.returns-in_err-write_behind-2-clause-err
returns-in_err-write_behind-2-clause-err g c =
    let place = place_text c.args.files.now c.args.refusal.place in
    where_err c.from_residual-in_err-write_behind-2.result
    (Front-written _ (codes " ") (name_of c.args.refusal.refusal ∷ place ∷ (10 ∷ []) ∷ []) (refusal_text c.args.files.now c.args.refusal)
    (WritesBehind-trans c.in_ok-write_behind.ensures.ok c.in_ok-write_number.ensures.ok) c.in_err-write_behind-2.ensures.err
    (ap (λ (n : ℕ). codes "refused " ++ decimal n ++ codes " " ++ name_of c.args.refusal.refusal ++ place ++ 10 ∷ []) (c.from.ensures ∙ c.number.ensures)))

pub returns-in_err-write_behind-3-clause-err : goal.returns-in_err-write_behind-3-clause-err
returns-in_err-write_behind-3-clause-err g c =
    let place = place_text c.args.files.now c.args.refusal.place in
    let numbered = ap (λ (n : ℕ). codes "refused " ++ decimal n ++ codes " " ++ c.as_bytes.result.now ++ place ++ 10 ∷ []) (c.from.ensures ∙ c.number.ensures) in
    let named = ap (λ (name : List ℕ). codes "refused " ++ decimal (number_of c.args.refusal.refusal) ++ codes " " ++ name ++ place ++ 10 ∷ []) (c.as_bytes.ensures.value ∙ c.name.ensures) in
    where_err c.from_residual-in_err-write_behind-3.result
    (Front-written _ c.as_bytes.result.now (place ∷ (10 ∷ []) ∷ []) (refusal_text c.args.files.now c.args.refusal)
    (WritesBehind-trans (WritesBehind-trans c.in_ok-write_behind.ensures.ok c.in_ok-write_number.ensures.ok) c.in_ok-write_behind-2.ensures.ok) c.in_err-write_behind-3.ensures.err (numbered ∙ named))

pub returns-in_err-write_place-clause-err : goal.returns-in_err-write_place-clause-err
returns-in_err-write_place-clause-err g c =
    let place = place_text c.args.files.now c.args.refusal.place in
    let numbered = ap (λ (n : ℕ). codes "refused " ++ decimal n ++ codes " " ++ c.as_bytes.result.now ++ place ++ 10 ∷ []) (c.from.ensures ∙ c.number.ensures) in
    let named = ap (λ (name : List ℕ). codes "refused " ++ decimal (number_of c.args.refusal.refusal) ++ codes " " ++ name ++ place ++ 10 ∷ []) (c.as_bytes.ensures.value ∙ c.name.ensures) in
    where_err c.from_residual-in_err-write_place.result
    (Front-written _ place ((10 ∷ []) ∷ []) (refusal_text c.args.files.now c.args.refusal)
    (WritesBehind-trans (WritesBehind-trans (WritesBehind-trans c.in_ok-write_behind.ensures.ok c.in_ok-write_number.ensures.ok) c.in_ok-write_behind-2.ensures.ok) c.in_ok-write_behind-3.ensures.ok) c.in_err-write_place.ensures.err
    (numbered ∙ named))

pub returns-clause-err : goal.returns-clause-err
returns-clause-err g c =
    let first = WritesBehind-trans (WritesBehind-trans (WritesBehind-trans (WritesBehind-trans c.in_ok-write_behind.ensures.ok c.in_ok-write_number.ensures.ok) c.in_ok-write_behind-2.ensures.ok) c.in_ok-write_behind-3.ensures.ok) c.in_ok-write_place.ensures.ok in
    let place = place_text c.args.files.now c.args.refusal.place in
    let numbered = ap (λ (n : ℕ). codes "refused " ++ decimal n ++ codes " " ++ c.as_bytes.result.now ++ place ++ 10 ∷ []) (c.from.ensures ∙ c.number.ensures) in
    let named = ap (λ (name : List ℕ). codes "refused " ++ decimal (number_of c.args.refusal.refusal) ++ codes " " ++ name ++ place ++ 10 ∷ []) (c.as_bytes.ensures.value ∙ c.name.ensures) in
    weaker_err c.write_behind-4.result (λ broken. Front-written _ (10 ∷ []) [] (refusal_text c.args.files.now c.args.refusal) first broken (numbered ∙ named)) c.write_behind-4.ensures.err
