-- The flags in FLAGS that decide nothing (docs/policy.md, "Flags"): they are kept as texts.
use Rattle.std.specs.Prelude.{ℕ, not, ◌==◌, List, drop, take}
use Rattle.std.specs.List.{filter, prefix_len}
use Rattle.aa_bytes.specs.Bytes.{closing_parenthesis, opening_parenthesis}
use Rattle.aa_profile_parsing.specs.Tokens.{is_open_brace}
use Rattle.aa_profile_parsing.specs.declared.language.Language.{Language}
use Rattle.aa_text_tokens.specs.Splicing.{Placed}
use Rattle.aa_profile_parsing.specs.FlagText.{spaced, words_of}
use Rattle.aa_profile_parsing.specs.Flags.{is_idle}

-- how many tokens come before the first opening brace
abbrev pub flag_count : List Placed → ℕ
flag_count tokens = prefix_len (λ token. not (is_open_brace token.token.kind)) tokens

-- the tokens of FLAGS: those before the brace that ends them
abbrev pub flag_tokens : List Placed → List Placed
flag_tokens tokens = take (flag_count tokens) tokens

-- what a text has before its first `)`
abbrev pub up_to_parenthesis : List ℕ → List ℕ
up_to_parenthesis text = take (prefix_len (λ b. not (b == closing_parenthesis)) text) text

-- the list of FLAGS: what is between the first `(` and the first `)` after it
abbrev pub list_text : List ℕ → List ℕ
list_text text = up_to_parenthesis (drop 1 (drop (prefix_len (λ b. not (b == opening_parenthesis)) text) text))

-- the words of a list that decide nothing, in their order
abbrev pub idle_words : Language → List ℕ → List (List ℕ)
idle_words language text = filter (is_idle language) (words_of text)

-- the flags in FLAGS that decide nothing, in their order
abbrev pub idle_flags : Language → List Placed → List (List ℕ)
idle_flags language tokens = idle_words language (list_text (spaced tokens))
