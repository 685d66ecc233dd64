use Rattle.std.proofs.Common.{◌≡◌, ◌∙◌, ◌++◌, ◌∷◌, [], ℕ, false, List, Option, Some, ap, inl, inr, map, string_bytes, sym}
use Rattle.std.proofs.lemmas.List.{map-append}
use Rattle.std.specs.Option.{option_map}
use Rattle.aatry_arguments.specs.Languages.{ends_options}
use Rattle.aatry_arguments.specs.SeenValues.{seen_option}
use Rattle.aatry_arguments.specs.code.ValueSoFar.{read_behind}
use Rattle.aatry_arguments.proofs.ValueLemmas.{word_kept}
use Rattle.aatry_arguments.proofs.values.read_word.Goals as goal

-- a word that says nothing of the option is left
pub returns : goal.returns
returns c words =
    let option = seen_option c.args.option in
    let word : List ℕ = c.args.word.now in
    let others : List (List ℕ) = map string_bytes c.args.others.now.items in
    let so_far : Option (List ℕ) = option_map (λ value. value.items) c.in-Some.so_far in
    let open_still : ends_options word ≡ false = elim c.requires [ inl none ↦ absurd (cc (none, c.in-Some.is)) | inr still ↦ still ] in
    let same : map string_bytes c.push.new.self.items ≡ others ++ word ∷ [] =
    ap (map string_bytes) c.in_ok-push.ensures.items
    ∙ (map-append string_bytes c.args.others.now.items (c.in_ok-from_str.field-0 ∷ [])
    ∙ ap (λ (last : List ℕ). others ++ last ∷ []) c.in_ok-from_str.ensures.ok)
    in
    ap (λ (front : List (List ℕ)). read_behind option front (Some so_far) words) same
    ∙ (word_kept option so_far others word words open_still (sym c.eq.ensures ∙ c.if-eq.false)
    (sym c.value_within.ensures ∙ ap (option_map (λ value. value.now)) c.in_default-value_within.is)
    ∙ ap (λ value. read_behind option others (option_map (option_map (λ value. value.items)) value) (word ∷ words)) (sym c.in-Some.is))
