use Rattle.std.proofs.Common.{◌≡◌, true, false, ap, ◌∙◌, refl}
use Rattle.std.proofs.lemmas.Result.{IfOk-weaker}
use Rattle.std.proofs.lemmas.Str.{IsUtf8-from_is_utf8, is_utf8-from_IsUtf8}
use Rattle.std.specs.Str.{is_utf8}
use Rattle.aatry_report.proofs.texts.text_value.Goals as goal
use Rattle.serde_json.specs.Data.{string}

pub returns-in-Ok : goal.returns-in-Ok
returns-in-Ok c =
    let text = c.args.text.now in
    let whole : is_utf8 text ≡ true = is_utf8-from_IsUtf8 text c.in-Ok.ensures.cases.1 in
    let same = c.in-Ok.ensures.cases.0 in
    IfOk-weaker c.try_from_str.result _ _ (λ v h. h ∙ ap string same ∙ rw whole refl) c.try_from_str.ensures

pub returns-in-Err : goal.returns-in-Err
returns-in-Err c =
    let text = c.args.text.now in
    let broken : is_utf8 text ≡ false =
    elim (is_utf8 text) as (λ b. is_utf8 text ≡ b → b ≡ false) [ true ↦ λ e. absurd (c.in-Err.ensures.cases.0 (IsUtf8-from_is_utf8 text e)) | false ↦ λ e. refl ] refl in
    IfOk-weaker c.by_digits.result _ _ (λ v h. h ∙ rw broken refl) c.by_digits.ensures
