use Rattle.std.proofs.Common.{◌≡◌, ◌∙◌, ◌∷◌, ◌-◌, ℕ, List, Option, ap, drop, length, map, string_bytes, sym, take}
use Rattle.std.specs.Option.{option_map}
use Rattle.aatry_arguments.specs.SeenValues.{seen_option}
use Rattle.aatry_arguments.specs.code.ValueSoFar.{read_behind}
use Rattle.aatry_arguments.proofs.LanguageLemmas.{parts_of}
use Rattle.aatry_arguments.proofs.values.value_of.Goals as goal

-- one word more
pub loop-rest-preserved : goal.loop-rest-preserved
loop-rest-preserved c =
    let option = seen_option c.args.option in
    let others : List (List ℕ) = map string_bytes c.loop-rest.others.items in
    let value : Option (Option (List ℕ)) = option_map (option_map (λ value. value.items)) c.loop-rest.value in
    let rest = c.loop-rest.rest.now in
    let word : List ℕ = string_bytes c.word-item.result in
    let more : List (List ℕ) = map string_bytes (take (length rest - 1) (drop 1 rest)) in
    let parts : map string_bytes rest ≡ word ∷ more = ap (map string_bytes) (parts_of rest c.word-item.result c.in-len1-up.len_at_least c.word-item.is) in
    c.in_ok-value.ensures more
    ∙ (ap (λ (first : List ℕ). read_behind option others value (first ∷ more)) c.as_str-in-len1-up.ensures.value
    ∙ (ap (read_behind option others value) (sym parts) ∙ c.loop-rest.invariant))
