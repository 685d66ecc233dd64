use Rattle.std.proofs.Common.{◌≡◌, ◌∙◌, ◌++◌, ◌∷◌, [], ap, take, min, length, arith}
use Rattle.std.proofs.lemmas.List.{take_min}
use Rattle.aa_text_expansion.specs.Joining.{as_texts, most_kept}
use Rattle.aa_text_variables.proofs.variables.plain.alone.Goals as goal

pub returns : goal.returns
returns c =
    let text = c.args.text.now in
    let size : c.min.result ≡ min 4097 (length text) = omega arith in
    let kept : c.in_ok-copy.copy.items ≡ take most_kept text = c.in_ok-copy.ensures.items ∙ ap (λ n. take n text) size ∙ take_min 4097 text in
    ap as_texts (c.in_ok-push.ensures.items ∙ ap (λ before. before ++ c.in_ok-copy.copy ∷ []) c.in_ok-texts.ensures.items)
    ∙ ap (λ only. only ∷ []) kept
