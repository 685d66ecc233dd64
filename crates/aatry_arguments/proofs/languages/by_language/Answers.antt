use Rattle.std.proofs.Common.{◌≡◌, ◌++◌, ◌∷◌, [], ◌-◌, List, Some, drop, length, map, string_bytes, sym, ap, ◌∙◌, take, ℕ}
use Rattle.std.proofs.lemmas.List.{map-append}
use Rattle.std.specs.Option.{option_map}
use Rattle.aatry_arguments.specs.Languages.{by_language, ends_options, is_language_word, language_in, with_word}
use Rattle.aatry_arguments.specs.code.WordsSoFar.{with_words}
use Rattle.aatry_arguments.proofs.LanguageLemmas.{parts_of, word_left, words_push}
use Rattle.aatry_arguments.proofs.languages.by_language.Goals as goal

pub loop-rest-preserved : goal.loop-rest-preserved
loop-rest-preserved c =
    let others : List (List ℕ) = map string_bytes c.loop-rest.others.items in
    let rest = c.loop-rest.rest.now in
    let word : List ℕ = string_bytes c.word-item.result in
    let more : List (List ℕ) = map string_bytes (take (length rest - 1) (drop 1 rest)) in
    let parts : map string_bytes rest ≡ word ∷ more = ap (map string_bytes) (parts_of rest c.word-item.result c.in-len1-up.len_at_least c.word-item.is) in
    let left : by_language (Some c.in-Some.so_far) (word ∷ more) ≡ option_map (with_word word) (by_language (Some c.in-Some.so_far) more) =
    word_left c.in-Some.so_far word more
    (ap ends_options (sym c.as_str.ensures.value) ∙ sym c.ends_options.ensures ∙ c.if-ends_options.false)
    (ap is_language_word (sym c.as_str-in-Some.ensures.value) ∙ sym c.is_language_word.ensures ∙ c.if-is_language_word.false)
    (ap language_in (sym c.as_str-else-is_language_word.ensures.value) ∙ sym c.language_in.ensures ∙ ap (option_map (λ named. named.now)) c.in_default-language_in.is)
    in
    let so_far = c.in-Some.so_far in
    let same : map string_bytes c.push.new.self.items ≡ others ++ word ∷ [] =
    ap (map string_bytes) c.in_ok-push-in-Some.ensures.items
    ∙ (map-append string_bytes c.loop-rest.others.items (c.in_ok-from_str-in-Some.field-0 ∷ [])
    ∙ ap (λ (last : List ℕ). others ++ last ∷ []) (c.in_ok-from_str-in-Some.ensures.ok ∙ c.as_str-in_default-language_in.ensures.value))
    in
    ap (λ (front : List (List ℕ)). option_map (with_words front) (by_language (Some so_far) more)) same
    ∙ (words_push others word (by_language (Some so_far) more)
    ∙ (ap (option_map (with_words others)) (sym left ∙ ap (by_language (Some so_far)) (sym parts))
    ∙ (ap (λ language. option_map (with_words others) (by_language language (map string_bytes rest))) (sym c.in-Some.is) ∙ c.loop-rest.invariant)))
